-- What holds of every letter, by one test over the table of letters or one fact a letter of a list. Assumes nothing.
use mathlib.Core.Path.{◌≡◌, refl}
use Prim.Native.Nat.{ℕ}
use mathlib.Core.Bool.{Bool, true, false, cond, ◌&&◌}
use mathlib.Core.List.{List, [], ◌∷◌}
use lib.Dec.{eqb}
use borrow.Author.Tests.{eqb-true}
use Rattle.refusals.specs.Numbers.{unknown_type}
use Rattle.grammar.specs.Letters.{Class, refuses, letters, found, class_of, among}
use Rattle.grammar.proofs.Tests.{never, both_true}

-- a test that each line of the table passes, and any letter that is not there
abbrev pub passing : (ℕ → Class → Bool) → List (ℕ × Class) → Bool
passing test [] = true
passing test (x ∷ xs) = test x.0 x.1 && passing test xs

pub class_passes : (test : ℕ → Class → Bool) → ((l : ℕ) → test l (refuses unknown_type) ≡ true) → passing test letters ≡ true → (l : ℕ) → test l (class_of l) ≡ true
unfolding class_of found
class_passes test unknown all l = go letters all
  where
    go : (ls : List (ℕ × Class)) → passing test ls ≡ true → test l (found l ls) ≡ true
    go [] e = unknown l
    go (x ∷ xs) e = here (eqb l x.0) refl (both_true (test x.0 x.1) (passing test xs) e).0 (go xs (both_true (test x.0 x.1) (passing test xs) e).1)
      where
        here : (b : Bool) → eqb l x.0 ≡ b → test x.0 x.1 ≡ true → test l (found l xs) ≡ true → test l (cond b x.1 (found l xs)) ≡ true
        here true q h rest = rw (eqb-true l x.0 q) h
        here false q h rest = rest

-- what holds of each letter of a list holds of any letter among them
abbrev pub Each : (ℕ → Type 0) → List ℕ → Type 0
Each P [] = Unit
Each P (x ∷ xs) = P x × Each P xs

pub among-each : (P : ℕ → Type 0) (l : ℕ) (xs : List ℕ) → Each P xs → among l xs ≡ true → P l
among-each P l [] h e = never e
among-each P l (x ∷ xs) h e = go (eqb l x) refl e (λ q. among-each P l xs h.1 q)
  where
    go : (b : Bool) → eqb l x ≡ b → cond b true (among l xs) ≡ true → (among l xs ≡ true → P l) → P l
    go true q e rest = rw (eqb-true l x q) h.0
    go false q e rest = rest e
