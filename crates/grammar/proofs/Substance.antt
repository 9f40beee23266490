-- 01, 'What a green run has to mean': the definitions shut out made-up counts, and a reader that touches no store. (That demands 2 and 3 shut
-- out others stands in `promises`.) Consequences of Exactness and Bounded. Assumes that the input is bytes where it says so.
use mathlib.Core.Path.{◌≡◌, refl, sym, ap, ◌∙◌}
use Prim.Native.Nat.{ℕ, zero, suc, ◌+◌, ◌*◌, ◌<◌}
use native.Mathlib.Omega.{arith}
use mathlib.Core.Bool.{Bool, true, false, ◌&&◌}
use mathlib.Core.List.{List, [], ◌∷◌}
use lib.ListN.{length, get_or}
use lib.Dec.{leb}
use Rattle.clearing.specs.Lent.{zeros, padded}
use Rattle.grammar.specs.Input.{Bytes}
use Rattle.grammar.specs.Reading.{level, node, entry, slot, gives}
use Rattle.grammar.specs.Letters.{letters, found, class_of}
use Rattle.grammar.specs.Room.{plainly}
use Rattle.grammar.specs.State.{Node, State, blank, node_width, entry_width, node_cells}
use Rattle.grammar.specs.Answer.{plain, rooms_of, reading, nodes_held, read_of}
use Rattle.grammar.specs.Counted.{claims_of, AllFour}
use Rattle.grammar.specs.Record.{sound}
use Rattle.grammar.proofs.Fitting.{exact_where_all_fit, most-fits, fits-unless_of_room, gives_not_of_room}
use Rattle.grammar.proofs.Exactness.{exact_where_it_fits}
use Rattle.grammar.proofs.Bounded.{Accepted}
use Rattle.grammar.proofs.Contents.{gives-within, accepted-reading}

-- Counts are not made up. In whatever room an input is accepted, the value and the counts are the same ..
pub plain-answer : (s : List ℕ) (nodes entries slots nesting : ℕ) (r : ℕ × State) → reading s nodes entries slots nesting ≡ gives r → plainly (plain s) ≡ gives r
plain-answer s nodes entries slots nesting r e =
    let w = gives-within s nodes entries slots nesting r e in
    let R = rooms_of nodes entries slots nesting in
    let fits = fits-unless_of_room R (plain s) (λ n p q. gives_not_of_room r n p (sym w.1 ∙ q)) in
    sym (exact_where_all_fit R (plain s) fits) ∙ w.1

pub same_counts_in_any-room : (s : List ℕ) (nodes entries slots nesting nodes' entries' slots' nesting' : ℕ) (r r' : ℕ × State)
    → reading s nodes entries slots nesting ≡ gives r → reading s nodes' entries' slots' nesting' ≡ gives r' → r ≡ r'
same_counts_in_any-room s nodes entries slots nesting nodes' entries' slots' nesting' r r' e e' =
    let p = plain-answer s nodes entries slots nesting r e in
    let p' = plain-answer s nodes' entries' slots' nesting' r' e' in
    cc

-- .. it needs room for as many records as they say (`records_fit`), and stores of just that size are enough.
pub counts_are_enough-room : (s : List ℕ) (nodes entries slots nesting : ℕ) (r : ℕ × State) → reading s nodes entries slots nesting ≡ gives r
    → reading s (length r.1.nodes * node_width) (length r.1.entries * entry_width) (length r.1.slots) nesting ≡ gives r
counts_are_enough-room s nodes entries slots nesting r e =
    let w = gives-within s nodes entries slots nesting r e in
    let R = rooms_of nodes entries slots nesting in
    let m = most-fits R (claims_of s) (fits-unless_of_room R (plain s) (λ n p q. gives_not_of_room r n p (sym w.1 ∙ q))) in
    exact_where_it_fits s (length r.1.nodes * node_width) (length r.1.entries * entry_width) (length r.1.slots) nesting w.0
    (enough (accepted-reading s nodes entries slots nesting r e) m)
    ∙ plain-answer s nodes entries slots nesting r e
  where
    enough : Accepted s r → AllFour s (rooms_of nodes entries slots nesting)
        → AllFour s (rooms_of (length r.1.nodes * node_width) (length r.1.entries * entry_width) (length r.1.slots) nesting)
    enough a m level = m level
    enough a m node = omega (arith, a.needed-nodes, m node)
    enough a m entry = omega (arith, a.needed-entries, m entry)
    enough a m slot = omega (arith, a.needed-slots, m slot)

-- A store that is lent all zero is not left so: an accepted value's letter stands in its first number.
not-zero : (s : List ℕ) (n : Node) → n.letter ≡ 0 → sound s n ≡ true → ⊥
unfolding sound class_of letters found
not-zero s n e h = never (leb (n.place + n.size) (length s)) (rw e at h)
  where
    never : (b : Bool) → b && false ≡ true → ⊥
    never true q = let z : ◌≡◌ {A = ℕ} 0 1 = cc in omega arith
    never false q = let z : ◌≡◌ {A = ℕ} 0 1 = cc in omega arith

pub touching_nothing_is_out : (s : List ℕ) → Bytes s → (nodes entries slots nesting : ℕ) (r : ℕ × State) → reading s nodes entries slots nesting ≡ gives r
    → (read_of s nodes entries slots nesting).nodes ≡ zeros nodes → ⊥
unfolding read_of padded
touching_nothing_is_out s bytes nodes entries slots nesting r e untouched =
    let a = accepted-reading s nodes entries slots nesting r e in
    let held : nodes_held nodes (gives r) ≡ zeros nodes = rw e at untouched in
    first r.1.nodes ((a.finished 0 (omega (arith, a.root))).own bytes) (omega (arith, a.root)) held
  where
    zero_at : (n : ℕ) → get_or (zeros n) 0 0 ≡ 0
    zero_at n = go n
      where
        go : (n : ℕ) → get_or (zeros n) 0 0 ≡ 0
        go zero = refl
        go (suc n) = refl

    first : (ns : List Node) → sound s (get_or ns 0 blank) ≡ true → 0 < length ns → padded nodes (node_cells ns) ≡ zeros nodes → ⊥
    first [] h l q = omega arith
    first (n ∷ ns) h l q = not-zero s n (ap (λ xs. get_or xs 0 0) q ∙ zero_at nodes) h
