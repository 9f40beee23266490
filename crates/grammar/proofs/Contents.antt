-- What the three stores hold after an accepted reading: the records fit, and more room only adds zeros at the end.
-- Assumes nothing.
use mathlib.Core.Path.{◌≡◌, refl, sym, ap, ◌∙◌}
use Prim.Native.Nat.{ℕ, ◌+◌, ◌-◌, ◌*◌, ◌≤◌}
use native.Mathlib.Omega.{arith}
use mathlib.Core.Bool.{Bool, true, false, cond}
use mathlib.Core.List.{List, [], ◌∷◌, ◌++◌, append_assoc}
use lib.ListN.{length, replicate-append-replicate}
use lib.Dec.{ltb}
use borrow.Author.Tests.{ltb-false}
use Rattle.refusals.specs.Numbers.{input_too_long}
use Rattle.refusals.specs.Limits.{most_bytes}
use Rattle.clearing.specs.Lent.{zeros, padded}
use Rattle.grammar.specs.Reading.{node, entry, slot, Answer, gives, stops}
use Rattle.grammar.specs.Room.{run}
use Rattle.grammar.specs.State.{Node, Entry, State, node_width, entry_width, node_cells, entry_cells}
use Rattle.grammar.specs.Answer.{plain, rooms_of, reading, outcome_of, read_of}
use Rattle.grammar.specs.Counted.{claims_of, NotOfRoom, Larger, Widened}
use Rattle.grammar.proofs.Fitting.{most-fits, fits-unless_of_room, gives_not_of_room}
use Rattle.grammar.proofs.Exactness.{more_room-same_answer}
use Rattle.grammar.proofs.Bounded.{Accepted, accepted-within}

-- one record, so many numbers
pub length-node_cells : (ns : List Node) → length (node_cells ns) ≡ length ns * node_width
length-node_cells [] = refl
length-node_cells (n ∷ ns) = let e = length-node_cells ns in omega arith

pub length-entry_cells : (es : List Entry) → length (entry_cells es) ≡ length es * entry_width
length-entry_cells [] = refl
length-entry_cells (x ∷ es) = let e = length-entry_cells es in omega arith

-- An accepted answer is one of the plain reading within room.
pub gives-within : (s : List ℕ) (nodes entries slots nesting : ℕ) (r : ℕ × State) → reading s nodes entries slots nesting ≡ gives r
    → (length s ≤ most_bytes) × (run (rooms_of nodes entries slots nesting) (plain s) ≡ gives r)
unfolding reading
gives-within s nodes entries slots nesting r e = go (ltb most_bytes (length s)) refl e
  where
    go : (b : Bool) → ltb most_bytes (length s) ≡ b → cond b (stops input_too_long 0) (run (rooms_of nodes entries slots nesting) (plain s)) ≡ gives r
        → (length s ≤ most_bytes) × (run (rooms_of nodes entries slots nesting) (plain s) ≡ gives r)
    go true q x = let z : ◌≡◌ {A = ℕ} 0 1 = cc in absurd (omega arith)
    go false q x = (ltb-false most_bytes (length s) q, x)

-- Everything that theorem Bounded says, of the whole answer; and the records fit into the stores.
pub record Fits (nodes entries slots : ℕ) (st : State) : Type 0 where
  pub in_nodes : length (node_cells st.nodes) ≤ nodes
  pub in_entries : length (entry_cells st.entries) ≤ entries
  pub in_slots : length st.slots ≤ slots

pub accepted-reading : (s : List ℕ) (nodes entries slots nesting : ℕ) (r : ℕ × State) → reading s nodes entries slots nesting ≡ gives r → Accepted s r
accepted-reading s nodes entries slots nesting r e =
    let w = gives-within s nodes entries slots nesting r e in
    accepted-within s w.0 (rooms_of nodes entries slots nesting) r w.1

pub records_fit : (s : List ℕ) (nodes entries slots nesting : ℕ) (r : ℕ × State) → reading s nodes entries slots nesting ≡ gives r → Fits nodes entries slots r.1
records_fit s nodes entries slots nesting r e =
    let w = gives-within s nodes entries slots nesting r e in
    let a = accepted-reading s nodes entries slots nesting r e in
    let fits = fits-unless_of_room (rooms_of nodes entries slots nesting) (plain s) (λ n p q. gives_not_of_room r n p (sym w.1 ∙ q)) in
    let m = most-fits (rooms_of nodes entries slots nesting) (claims_of s) fits in
    record {
      in_nodes = omega (arith, length-node_cells r.1.nodes, a.needed-nodes, m node);
      in_entries = omega (arith, length-entry_cells r.1.entries, a.needed-entries, m entry);
      in_slots = omega (arith, a.needed-slots, m slot);
    }

-- A larger store holds the same, then zeros.
zeros_more : (n n' : ℕ) → n ≤ n' → zeros n' ≡ zeros n ++ zeros (n' - n)
zeros_more n n' h =
    let e : n + (n' - n) ≡ n' = omega arith in
    sym (replicate-append-replicate n (n' - n) 0 ∙ ap zeros e)

add-zeros : (xs : List ℕ) (k m n : ℕ) → k + m ≡ n → xs ++ zeros n ≡ (xs ++ zeros k) ++ zeros m
add-zeros xs k m n e = rw (append_assoc, replicate-append-replicate, e) refl

padded_more : (n n' : ℕ) (xs : List ℕ) → length xs ≤ n → n ≤ n' → padded n' xs ≡ padded n xs ++ zeros (n' - n)
unfolding padded
padded_more n n' xs h l = add-zeros xs (n - length xs) (n' - n) (n' - length xs) (omega arith)

-- More room changes no answer that is no refusal for want of room, and nothing in the stores but that zeros are added at the end.
pub more_room_same_stores : (s : List ℕ) (nodes entries slots nesting nodes' entries' slots' nesting' : ℕ)
    → Larger nodes entries slots nesting nodes' entries' slots' nesting' → NotOfRoom (reading s nodes entries slots nesting)
    → Widened nodes entries slots nodes' entries' slots' (read_of s nodes entries slots nesting) (read_of s nodes' entries' slots' nesting')
unfolding read_of
more_room_same_stores s nodes entries slots nesting nodes' entries' slots' nesting' l other =
    rw (more_room-same_answer s nodes entries slots nesting nodes' entries' slots' nesting' l other)
    (go (reading s nodes entries slots nesting) (λ r e. records_fit s nodes entries slots nesting r e))
  where
    go : (a : Answer (ℕ × State)) → ((r : ℕ × State) → a ≡ gives r → Fits nodes entries slots r.1)
        → Widened nodes entries slots nodes' entries' slots' (outcome_of nodes entries slots a) (outcome_of nodes' entries' slots' a)
    go (gives r) h =
        let f = h r refl in
        record {
          same_answer = refl;
          node_store_lem = padded_more nodes nodes' (node_cells r.1.nodes) f.in_nodes l.more_nodes;
          entry_store_lem = padded_more entries entries' (entry_cells r.1.entries) f.in_entries l.more_entries;
          slot_store_lem = padded_more slots slots' r.1.slots f.in_slots l.more_slots;
        }
    go (stops n p) h =
        record {
          same_answer = refl;
          node_store_lem = zeros_more nodes nodes' l.more_nodes;
          entry_store_lem = zeros_more entries entries' l.more_entries;
          slot_store_lem = zeros_more slots slots' l.more_slots;
        }
