-- The grammar's reading begun behind what is kept, beside the append: the same root, counts and records. By the law of shifted readings (Counting,
-- `goes_on`); every node that was read has a letter, so that all of them are raised. Assumes nothing.
use mathlib.Core.Path.{◌≡◌, refl, sym, ap, ap₂, subst, ◌∙◌}
use Prim.Native.Nat.{ℕ, zero, suc, ◌+◌, ◌*◌, ◌≤◌, ◌<◌}
use native.Mathlib.Omega.{arith}
use mathlib.Core.Bool.{Bool, true, false}
use mathlib.Core.List.{List, [], ◌∷◌, map}
use lib.ListN.{length, get_or, length-map}
use lib.Dec.{leb, eqb}
use borrow.Author.Tests.{eqb-true}
use Rattle.refusals.specs.Limits.{most_bytes}
use Rattle.clearing.specs.Lent.{padded}
use Rattle.grammar.specs.Reading.{Answer, gives, stops}
use Rattle.grammar.specs.Letters.{letters, found, class_of}
use Rattle.grammar.specs.Room.{Rooms, run, plainly}
use Rattle.grammar.specs.State.{Node, Entry, State, blank, node_width, node_cells}
use Rattle.grammar.specs.Steps.{value}
use Rattle.grammar.specs.Answer.{plain, Counts}
use Rattle.grammar.specs.Record.{ruled, sound}
use Rattle.grammar.proofs.Tests.{both_true, never}
use Rattle.grammar.proofs.Fitting.{exact_where_all_fit, fits-unless_of_room, gives_not_of_room}
use Rattle.grammar.proofs.Bounded.{accepted-within}
use Rattle.grammar.proofs.Root.{root_is_node_0}
use Rattle.shifts.specs.Shift.{Shift, raised_node, raised_entry, raised_slot, raised, raised_value, lifted_a}
use Rattle.shifts.proofs.Raising.{behind-length}
use Rattle.raising.specs.Appended.{relabelled, appended_node, appended_slot}
use Rattle.readmore.specs.More.{Kept, keeping, room_left, appending, behind}
use Rattle.appended.specs.Promised.{lent_room, Holds, kept_state, by_kept, Continued}
use Rattle.appended.proofs.Counting.{goes_on, reads_on, more-is}

-- a node with no letter is not sound
with_letter : (s : List ℕ) (n : Node) → sound s n ≡ true → eqb n.letter 0 ≡ false
unfolding sound class_of letters found
with_letter s n e = go (eqb n.letter 0) refl (both_true (leb (n.place + n.size) (length s)) (ruled s n (class_of n.letter)) e).1
  where
    go : (b : Bool) → eqb n.letter 0 ≡ b → ruled s n (class_of n.letter) ≡ true → b ≡ false
    go false q h = refl
    go true q h = never (sym (ap (ruled s n) (ap class_of (eqb-true n.letter 0 q))) ∙ h)

map-alike : {A B : Type 0} (f g : A → B) (d : A) (xs : List A) → ((i : ℕ) → i < length xs → f (get_or xs i d) ≡ g (get_or xs i d)) → map f xs ≡ map g xs
map-alike f g d [] h = refl
map-alike f g d (x ∷ xs) h = ap₂ (λ y ys. y ∷ ys) (h 0 (omega arith)) (map-alike f g d xs (λ i l. h (suc i) (omega arith)))

map-map : {A B C : Type 0} (f : A → B) (g : B → C) (xs : List A) → map g (map f xs) ≡ map (λ x. g (f x)) xs
map-map f g [] = refl
map-map f g (x ∷ xs) = ap (λ ys. g (f x) ∷ ys) (map-map f g xs)

module _ (ns : List Node) (es : List Entry) (number : ℕ) where
  abbrev by : Shift
  by = by_kept ns es

  node-raised : (n : Node) → eqb n.letter 0 ≡ false → relabelled (raised_node by n).first number (raised_node by n) ≡ appended_node (length es) number n
  node-raised n e =
      let p : 0 + n.place ≡ n.place = omega arith in
      let q : 0 + n.end ≡ n.end = omega arith in
      rw (e, p, q) refl

  slot-raised : (v : ℕ) → raised_slot by v ≡ appended_slot (length ns) v
  slot-raised zero = refl
  slot-raised (suc v) = refl

module _ (s nodes entries : List ℕ) (slots nesting : ℕ) (ns : List Node) (es : List Entry) (number : ℕ) (small : length s ≤ most_bytes)
    (h : Holds (lent_room nodes entries slots nesting) (keeping (length ns) (length es) number)) where
  abbrev k : Kept
  k = keeping (length ns) (length es) number

  abbrev R : Rooms
  R = lent_room nodes entries slots nesting

  abbrev shift : Shift
  shift = by_kept ns es

  continued : (q : ℕ × State) → appending s R k ≡ gives q → Continued s nodes entries slots nesting ns es number (raised_value shift q)
  unfolding raised
  continued q e =
      let within : run (room_left R k) (plain s) ≡ gives q = sym (reads_on R k h s small) ∙ e in
      let read : plainly (plain s) ≡ gives q =
      sym (exact_where_all_fit (room_left R k) (plain s) (fits-unless_of_room (room_left R k) (plain s) (λ n p x. gives_not_of_room q n p (sym within ∙ x)))) ∙ within in
      let acc = accepted-within s small (room_left R k) q within in
      let now = more-is s nodes entries slots nesting k e in
      let end : 0 + q.1.at ≡ q.1.at = omega arith in
      record {
        root = ap (λ v. length ns + v) (root_is_node_0 s q read) ∙ omega arith;
        new_nodes = map (raised_node shift) q.1.nodes;
        new-entries = map (raised_entry shift) q.1.entries;
        nodes_end = refl;
        entries_end = refl;
        answer = ap (λ o. o.answer) now ∙ counted (sym end) (sym (behind-length (raised_node shift) ns q.1.nodes)) (sym (behind-length (raised_entry shift) es q.1.entries)) (sym (length-map q.1.slots (raised_slot shift)));
        in_nodes = λ bs.
            ap (λ o. o.nodes) now
            ∙ ap (λ xs. behind (length ns * node_width) nodes (node_cells xs))
            (sym (map-map (raised_node shift) (λ n. relabelled n.first number n) q.1.nodes
            ∙ map-alike (λ n. relabelled (raised_node shift n).first number (raised_node shift n)) (appended_node (length es) number) blank q.1.nodes
            (λ i l. node-raised ns es number (get_or q.1.nodes i blank) (with_letter s (get_or q.1.nodes i blank) ((acc.finished i l).own bs)))));
        in_entries = ap (λ o. o.entries) now;
        in_slots = ap (λ o. o.slots) now ∙ ap (padded slots) (sym (map-alike (raised_slot shift) (appended_slot (length ns)) 0 q.1.slots (λ i l. slot-raised ns es number (get_or q.1.slots i 0))));
      }
    where
      counted : {a b c d a' b' c' d' : ℕ} → a ≡ a' → b ≡ b' → c ≡ c' → d ≡ d'
          → ◌≡◌ {A = Answer Counts} (gives (record { consumed = a; nodes = b; entries = c; slots = d })) (gives (record { consumed = a'; nodes = b'; entries = c'; slots = d' }))
      counted p q u v = λ i. gives (record { consumed = p i; nodes = q i; entries = u i; slots = v i })

pub reading-continued : (s nodes entries : List ℕ) (slots nesting : ℕ) (ns : List Node) (es : List Entry) (number : ℕ) → length s ≤ most_bytes
    → Holds (lent_room nodes entries slots nesting) (keeping (length ns) (length es) number) → (r : ℕ × State)
    → run (lent_room nodes entries slots nesting) (value (length s) s 0 (kept_state ns es)) ≡ gives r → Continued s nodes entries slots nesting ns es number r
unfolding lifted_a
reading-continued s nodes entries slots nesting ns es number small h r e =
    go (appending s (lent_room nodes entries slots nesting) (keeping (length ns) (length es) number)) refl (sym (goes_on s nodes entries slots nesting ns es number small h) ∙ e)
  where
    go : (a : Answer (ℕ × State)) → appending s (lent_room nodes entries slots nesting) (keeping (length ns) (length es) number) ≡ a
        → lifted_a (by_kept ns es) (raised_value (by_kept ns es)) a ≡ gives r → Continued s nodes entries slots nesting ns es number r
    go (stops n p) q x = absurd (let z : ◌≡◌ {A = ℕ} 0 1 = cc in omega arith)
    go (gives v) q x =
        let z : raised_value (by_kept ns es) v ≡ r = cc in
        subst (Continued s nodes entries slots nesting ns es number) z (continued s nodes entries slots nesting ns es number small h v q)
