-- Where nothing is kept, an append is the reading: no number is raised, and every node of a reading names input 0. Assumes nothing.
use mathlib.Core.Path.{◌≡◌, refl, sym, ap, ap₂, ◌∙◌}
use Prim.Native.Nat.{ℕ, zero, suc, ◌+◌, ◌-◌, ◌<◌}
use native.Mathlib.Omega.{arith}
use mathlib.Core.Bool.{Bool, true, false, cond}
use mathlib.Core.List.{List, [], ◌∷◌, map}
use lib.ListN.{length, get_or}
use lib.Dec.{ltb, eqb}
use borrow.Author.Tests.{le-ltb}
use Rattle.refusals.specs.Numbers.{no_node, no_entry, input_too_long}
use Rattle.refusals.specs.Limits.{most_bytes, nothing}
use Rattle.clearing.specs.Lent.{zeros, padded}
use Rattle.grammar.specs.Reading.{Answer, gives, stops}
use Rattle.grammar.specs.Room.{run}
use Rattle.grammar.specs.State.{Node, Entry, State, blank, node_cells, entry_cells}
use Rattle.grammar.specs.Answer.{plain, rooms_of, reading, outcome_of, read_of}
use Rattle.grammar.proofs.Contents.{accepted-reading}
use Rattle.raising.specs.Appended.{raised_link, appended_node, appended_entry, appended_slot}
use Rattle.readmore.specs.More.{Kept, keeping, room_left, appending, appended_to, more_of}

abbrev none : Kept
none = keeping 0 0 0

-- a list whose elements do not change
map_same : {A : Type 0} (f : A → A) (d : A) (xs : List A) → ((i : ℕ) → i < length xs → f (get_or xs i d) ≡ get_or xs i d) → map f xs ≡ xs
map_same f d [] h = refl
map_same f d (x ∷ xs) h = ap₂ (λ y ys. y ∷ ys) (h 0 (omega arith)) (map_same f d xs (λ i l. h (suc i) (omega arith)))

link_same : (e : ℕ) → raised_link 0 e ≡ e
link_same e = go (eqb e nothing)
  where
    go : (b : Bool) → cond b e (0 + e) ≡ e
    go true = refl
    go false = omega arith

node_same : (n : Node) → n.input ≡ 0 → appended_node 0 0 n ≡ n
node_same n z =
    (λ i. record { letter = n.letter; place = n.place; size = n.size; first = link_same n.first i; count = n.count; end = n.end; input = sym z i })

entry_same : (e : Entry) → appended_entry 0 0 e ≡ e
entry_same e = let z : 0 + e.child ≡ e.child = omega arith in (λ i. record { child = z i; next = link_same e.next i })

slot_same : (v : ℕ) → appended_slot 0 v ≡ v
slot_same zero = refl
slot_same (suc v) = omega arith

reads_all : (s : List ℕ) (nodes entries slots nesting : ℕ) → appending s (rooms_of nodes entries slots nesting) none ≡ reading s nodes entries slots nesting
unfolding appending reading
reads_all s nodes entries slots nesting =
    let R = rooms_of nodes entries slots nesting in
    let n : R.nodes - 0 ≡ R.nodes = omega arith in
    let e : R.entries - 0 ≡ R.entries = omega arith in
    let whole : room_left R none ≡ R = (λ i. record { levels = R.levels; nodes = n i; entries = e i; slots = R.slots }) in
    ap₂ (λ a b. cond (ltb most_bytes (length s)) (stops input_too_long 0) (cond a (stops no_node 0) (cond b (stops no_entry 0) (run (room_left R none) (plain s)))))
    (le-ltb R.nodes 0 (omega arith)) (le-ltb R.entries 0 (omega arith))
    ∙ ap (λ Q. cond (ltb most_bytes (length s)) (stops input_too_long 0) (run Q (plain s))) whole

pub nothing-kept : (s nodes entries : List ℕ) (slots nesting : ℕ) → more_of s nodes entries slots nesting 0 0 0 ≡ read_of s (length nodes) (length entries) slots nesting
unfolding more_of read_of
nothing-kept s nodes entries slots nesting =
    ap (appended_to none nodes entries slots) (reads_all s (length nodes) (length entries) slots nesting) ∙ go (reading s (length nodes) (length entries) slots nesting) refl
  where
    n : length nodes - 0 ≡ length nodes
    n = omega arith

    e : length entries - 0 ≡ length entries
    e = omega arith

    go : (a : Answer (ℕ × State)) → reading s (length nodes) (length entries) slots nesting ≡ a → appended_to none nodes entries slots a ≡ outcome_of (length nodes) (length entries) slots a
    go (stops number place) q = (λ i. record { answer = stops number place; nodes = zeros (n i); entries = zeros (e i); slots = zeros slots })
    go (gives r) q =
        let acc = accepted-reading s (length nodes) (length entries) slots nesting r q in
        let ns : map (appended_node 0 0) r.1.nodes ≡ r.1.nodes = map_same (appended_node 0 0) blank r.1.nodes (λ i l. node_same (get_or r.1.nodes i blank) (acc.finished i l).input) in
        let es : map (appended_entry 0 0) r.1.entries ≡ r.1.entries = map_same (appended_entry 0 0) (record { child = 0; next = 0 }) r.1.entries (λ i l. entry_same (get_or r.1.entries i (record { child = 0; next = 0 }))) in
        let ss : map (appended_slot 0) r.1.slots ≡ r.1.slots = map_same (appended_slot 0) 0 r.1.slots (λ i l. slot_same (get_or r.1.slots i 0)) in
        let cn : 0 + length r.1.nodes ≡ length r.1.nodes = omega arith in
        let ce : 0 + length r.1.entries ≡ length r.1.entries = omega arith in
        (λ i. record {
          answer = gives (record { consumed = r.1.at; nodes = cn i; entries = ce i; slots = length r.1.slots });
          nodes = padded (n i) (node_cells (ns i));
          entries = padded (e i) (entry_cells (es i));
          slots = padded slots (ss i);
        })
