-- A reader that leaves the stores as they were lent meets the contract for no accepted input: what is accepted has claimed a node, so
-- that the store of nodes holds a number, and two contents that differ in it cannot both be the one that the contract asks for.
-- Assumes nothing.
use mathlib.Core.Path.{◌≡◌, refl, sym, ap, subst, ◌∙◌}
use Prim.Native.Nat.{ℕ, zero, suc, ◌+◌, ◌≤◌, ◌<◌}
use native.Mathlib.Omega.{arith}
use mathlib.Core.Bool.{Bool, true, false, cond}
use mathlib.Core.List.{List, []}
use lib.ListN.{length, get_or, replicate, length-replicate}
use lib.Dec.{leb, ltb}
use borrow.Author.Tests.{leb-true}
use Rattle.refusals.specs.Numbers.{input_too_long, data_too_short, eof_object}
use Rattle.refusals.specs.Limits.{most_bytes}
use Rattle.grammar.specs.Reading.{Kind, level, node, slot, Reading, refused, claim, bind, Answer, gives, stops}
use Rattle.grammar.specs.Room.{Rooms, room_for, number_of, run}
use Rattle.grammar.specs.Letters.{Class, refers, keeps, contains, codes, refuses, flag_of, letter_of, class_of}
use Rattle.grammar.specs.Fields.{fields, contained, code_fields, le32}
use Rattle.grammar.specs.State.{start, node_capacity}
use Rattle.grammar.specs.Steps.{Front, stored, reference, reserving, opened, header, front, after, one, value}
use Rattle.grammar.specs.Answer.{plain, rooms_of, reading, read_of}
use Rattle.readsteps.proofs.Runs.{onto, run_bind, run-reads}
use Rattle.std.specs.Prelude.{Result}
use Rattle.refusals.specs.declared.Fault.{Fault}
use Rattle.reader.specs.declared.Read.{Read}
use Rattle.reader.specs.Delivered.{Delivers}

-- a reading that gives something
pub Given : {A : Type 0} → Answer A → Type 0
Given (gives a) = Unit
Given (stops n p) = ⊥

-- What has to fit where something is given.
claim-given : {A : Type 0} (R : Rooms) (k : Kind) (need place : ℕ) (m : Reading A) → Given (run R (claim k need place m)) → (need ≤ room_for R k) × Given (run R m)
unfolding Given run
claim-given R k need place m g = go (leb need (room_for R k)) refl g
  where
    go : (b : Bool) → leb need (room_for R k) ≡ b → Given (cond b (run R m) (stops (number_of k) place)) → (need ≤ room_for R k) × Given (run R m)
    go true e h = (leb-true need (room_for R k) e, h)
    go false e h = absurd h

onto_given : {A B : Type 0} (x : Answer A) (f : A → Answer B) → Given (onto x f) → Given x
unfolding Given
onto_given (gives a) f g = tt
onto_given (stops n p) f g = absurd g

bind-given : {A B : Type 0} (R : Rooms) (m : Reading A) (f : A → Reading B) → Given (run R (bind m f)) → Given (run R m)
bind-given R m f g = onto_given (run R m) (λ a. run R (f a)) (subst Given (run_bind R m f) g)

reserving-given : (R : Rooms) (flag used at : ℕ) (m : Reading Front) → Given (run R (reserving flag used at m)) → Given (run R m)
reserving-given R zero used at m g = g
reserving-given R (suc f) used at m g = (claim-given R slot (used + 1) at m g).1

-- with no slot reserved a reference finds nothing
no_reference : (s : List ℕ) (at : ℕ) → Given (reference s [] at) → ⊥
unfolding Given reference
no_reference s at g = go (leb (at + 4) (length s)) g
  where
    go : (b : Bool) → Given (cond b (stored at (get_or [] (le32 s at) 0)) (stops data_too_short at)) → ⊥
    go true h = h
    go false h = h

-- The root claims a node.
header-claims : (R : Rooms) (s : List ℕ) (depth at used letter flag : ℕ) (class : Class) → Given (run R (header s depth at 0 used [] letter flag class)) → 1 ≤ R.nodes
unfolding header Given run
header-claims R s depth at used letter flag refers g = absurd (no_reference s (at + 1) (subst Given (run-reads R (reference s [] (at + 1))) g))
header-claims R s depth at used letter flag (refuses number) g = absurd (reserving-given R flag used at (refused number at) g)
header-claims R s depth at used letter flag (keeps form) g = (claim-given R node 1 at (opened letter flag (fields s form (at + 1))) (reserving-given R flag used at (claim node 1 at (opened letter flag (fields s form (at + 1)))) g)).0
header-claims R s depth at used letter flag (contains sort) g =
    (claim-given R node 1 at (opened letter flag (contained s sort (at + 1))) (reserving-given R flag used at (claim node 1 at (opened letter flag (contained s sort (at + 1)))) g)).0
header-claims R s depth at used letter flag codes g =
    let inside = claim level (depth + 2) (at + 1) (opened letter flag (code_fields s (at + 1))) in
    (claim-given R node 1 at inside (reserving-given R flag used at (claim node 1 at inside) g)).0

front-claims : (R : Rooms) (s : List ℕ) (depth at used : ℕ) → Given (run R (front s depth at 0 used [])) → 1 ≤ R.nodes
unfolding front Given run
front-claims R s depth at used g =
    go (ltb at (length s)) (claim-given R level (depth + 1) at (cond (ltb at (length s)) inner (refused eof_object (length s))) g).1
  where
    inner : Reading Front
    inner = header s depth at 0 used [] (letter_of (get_or s at 0)) (flag_of (get_or s at 0)) (class_of (letter_of (get_or s at 0)))

    go : (b : Bool) → Given (run R (cond b inner (refused eof_object (length s)))) → 1 ≤ R.nodes
    go true h = header-claims R s depth at used (letter_of (get_or s at 0)) (flag_of (get_or s at 0)) (class_of (letter_of (get_or s at 0))) h
    go false h = absurd h

value-claims : (R : Rooms) (fuel : ℕ) (s : List ℕ) → Given (run R (value fuel s 0 start)) → 1 ≤ R.nodes
unfolding value one Given run
value-claims R zero s g = absurd (claim-given R level 1 0 (refused eof_object (length s)) g).1
value-claims R (suc fuel) s g = front-claims R s 0 0 0 (bind-given R (front s 0 0 0 0 []) (after (value fuel s) s fuel 0 start) g)

-- What is accepted needs room for a node.
pub accepted-claims : (s : List ℕ) (n e k nesting : ℕ) → Given (reading s n e k nesting) → 1 ≤ node_capacity n
unfolding reading plain Given
accepted-claims s n e k nesting g = go (ltb most_bytes (length s)) g
  where
    go : (b : Bool) → Given (cond b (stops input_too_long 0) (run (rooms_of n e k nesting) (value (length s) s 0 start))) → 1 ≤ node_capacity n
    go true h = absurd h
    go false h = value-claims (rooms_of n e k nesting) (length s) s h

differ : (n : ℕ) → 0 < n → replicate {A = ℕ} n 0 ≡ replicate n 1 → ⊥
differ zero h e = omega arith
differ (suc n) h e = let z : ◌≡◌ {A = ℕ} 0 1 = ap (λ l. get_or l 0 0) e in absurd (omega arith)

-- Whatever it answers: for an accepted input no reader delivers what is asked, for all stores of these lengths, and leaves each as lent.
pub untouched_fails : (s : List ℕ) (n e k nesting : ℕ) → Given (reading s n e k nesting) → (answer : (ns es ss : List ℕ) → Result Read Fault)
    → ((ns es ss : List ℕ) → length ns ≡ n → length es ≡ e → length ss ≡ k → Delivers (read_of s n e k nesting) (answer ns es ss) ns es ss) → ⊥
untouched_fails s n e k nesting given answer meets =
    let some : 0 < n = omega (arith, accepted-claims s n e k nesting given) in
    differ n some (lent 0 ∙ sym (lent 1))
  where
    lent : (v : ℕ) → replicate n v ≡ (read_of s n e k nesting).nodes
    lent v = (meets (replicate n v) (replicate e 0) (replicate k 0) (length-replicate n v) (length-replicate e 0) (length-replicate k 0)).nodes
