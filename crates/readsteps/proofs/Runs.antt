-- How `run` goes over `bind`, over a claim that fits and one that does not, and over what only reads bytes.
-- Assumes nothing.
use mathlib.Core.Path.{◌≡◌, refl, sym, ap, ◌∙◌}
use Prim.Native.Nat.{ℕ, ◌≤◌, ◌<◌}
use mathlib.Core.Bool.{Bool, true, false, cond}
use lib.Dec.{leb}
use borrow.Author.Tests.{le-leb, lt-leb}
use Rattle.grammar.specs.Reading.{Kind, Reading, done, refused, claim, bind, reads, Answer, gives, stops}
use Rattle.grammar.specs.Room.{Rooms, room_for, number_of, run}

-- what is read next, where the answer is one
abbrev pub onto : {A B : Type 0} → Answer A → (A → Answer B) → Answer B
onto (gives a) f = f a
onto (stops n p) f = stops n p

onto_cond : {A B : Type 0} (b : Bool) (x : Answer A) (n p : ℕ) (f : A → Answer B) → onto (cond b x (stops n p)) f ≡ cond b (onto x f) (stops n p)
onto_cond true x n p f = refl
onto_cond false x n p f = refl

pub run_bind : {A B : Type 0} (R : Rooms) (m : Reading A) (f : A → Reading B) → run R (bind m f) ≡ onto (run R m) (λ a. run R (f a))
unfolding run bind
run_bind R (done a) f = refl
run_bind R (refused n p) f = refl
run_bind R (claim k n p m) f =
    ap (λ x. cond (leb n (room_for R k)) x (stops (number_of k) p)) (run_bind R m f)
    ∙ sym (onto_cond (leb n (room_for R k)) (run R m) (number_of k) p (λ a. run R (f a)))

pub bind-gives : {A B : Type 0} (R : Rooms) (m : Reading A) (f : A → Reading B) (a : A) → run R m ≡ gives a → run R (bind m f) ≡ run R (f a)
bind-gives R m f a e = run_bind R m f ∙ ap (λ x. onto x (λ a. run R (f a))) e

pub bind_stops : {A B : Type 0} (R : Rooms) (m : Reading A) (f : A → Reading B) (n p : ℕ) → run R m ≡ stops n p → run R (bind m f) ≡ stops n p
bind_stops R m f n p e = run_bind R m f ∙ ap (λ x. onto x (λ a. run R (f a))) e

pub claim-fits : {A : Type 0} (R : Rooms) (k : Kind) (n p : ℕ) (m : Reading A) → n ≤ room_for R k → run R (claim k n p m) ≡ run R m
unfolding run
claim-fits R k n p m h = simp (le-leb n (room_for R k) h)

pub claim_fails : {A : Type 0} (R : Rooms) (k : Kind) (n p : ℕ) (m : Reading A) → room_for R k < n → run R (claim k n p m) ≡ stops (number_of k) p
unfolding run
claim_fails R k n p m h = simp (lt-leb n (room_for R k) h)

pub run-done : {A : Type 0} (R : Rooms) (a : A) → run R (done a) ≡ gives a
unfolding run
run-done R a = refl

pub run-reads : {A : Type 0} (R : Rooms) (a : Answer A) → run R (reads a) ≡ a
unfolding run
run-reads R (gives a) = refl
run-reads R (stops n p) = refl

-- one reading after another, whichever way they are grouped
pub bind_assoc : {A B C : Type 0} (m : Reading A) (f : A → Reading B) (g : B → Reading C) → bind (bind m f) g ≡ bind m (λ a. bind (f a) g)
unfolding bind
bind_assoc (done a) f g = refl
bind_assoc (refused n p) f g = refl
bind_assoc (claim k n p m) f g = ap (claim k n p) (bind_assoc m f g)
