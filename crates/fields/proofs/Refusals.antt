-- The classes of refused letters: each is refused with 3, 4 or 15. Assumes nothing.
use mathlib.Core.Path.{◌≡◌, refl, sym, subst, ◌∙◌}
use Prim.Native.Nat.{ℕ, ◌+◌, ◌-◌, ◌≤◌}
use mathlib.Core.Bool.{Bool, true, false, cond}
use mathlib.Core.List.{List, [], ◌∷◌}
use lib.Dec.{eqb}
use native.Mathlib.Omega.{arith}
use borrow.Author.Tests.{eqb-true, eqb-false}
use Rattle.refusals.specs.Faults.{number_of}
use Rattle.refusals.specs.declared.Refusal.TheVariants.{NullObject, NotCarried, UnknownType}
use lib.ListN.{get_or-eq_default}
use Rattle.refusals.specs.Numbers.{unknown_type, null_object, not_carried}
use Rattle.grammar.specs.Letters.{Class, refers, keeps, contains, codes, refuses, letters, found, class_of}
use Rattle.fields.specs.Classes.{classes, class_at, refused_from, refusal_of}

-- a class that is refused is so with one of the three
abbrev OfThree : Class → Type 0
OfThree refers = Unit
OfThree (keeps form) = Unit
OfThree (contains contents) = Unit
OfThree codes = Unit
OfThree (refuses number) = ((number ≡ null_object → ⊥) → (number ≡ not_carried → ⊥) → number ≡ unknown_type)

abbrev AllOfThree : List (ℕ × Class) → Type 0
AllOfThree [] = Unit
AllOfThree (l ∷ ls) = OfThree l.1 × AllOfThree ls

either-three : (b : Bool) (x y : Class) → OfThree x → OfThree y → OfThree (cond b x y)
either-three true x y h k = h
either-three false x y h k = k

found-three : (letter : ℕ) (ls : List (ℕ × Class)) → AllOfThree ls → OfThree (found letter ls)
unfolding found
found-three letter [] all = λ a b. refl
found-three letter (l ∷ ls) all = either-three (eqb letter l.0) l.1 (found letter ls) all.0 (found-three letter ls all.1)

letter-three : (letter : ℕ) → OfThree (class_of letter)
unfolding class_of letters
letter-three letter =
    found-three letter letters
    (tt, (tt, (tt, (tt, (tt, (tt, (tt, (tt, (tt, (tt, (tt, (tt, (tt, (tt, (tt, (tt, (tt, (tt, (tt, (tt, (tt, (tt, (tt, (tt, (tt, (tt, ((λ a b. absurd (a refl)), ((λ a b. absurd (b refl)), ((λ a b. absurd (b refl)), tt)))))))))))))))))))))))))))))

pub refused_class : (class : ℕ) → refused_from ≤ class → class_at class ≡ refuses (class - refused_from)
unfolding class_at classes
refused_class class h = get_or-eq_default classes (refuses (class - refused_from)) h

of_three : (class letter : ℕ) → class_at class ≡ class_of letter → refused_from ≤ class
    → (class - refused_from ≡ null_object → ⊥) → (class - refused_from ≡ not_carried → ⊥) → class - refused_from ≡ unknown_type
of_three class letter sorted over = subst OfThree (sym sorted ∙ refused_class class over) (letter-three letter)

-- of a refused letter's class it is the letter's own refusal
pub refusal-own : (class letter : ℕ) → class_at class ≡ class_of letter → refused_from ≤ class → number_of (refusal_of class) ≡ class - refused_from
refusal-own class letter sorted over = go (eqb class (refused_from + null_object)) (eqb class (refused_from + not_carried)) refl refl
  where
    go : (a b : Bool) → eqb class (refused_from + null_object) ≡ a → eqb class (refused_from + not_carried) ≡ b
        → number_of (cond a NullObject (cond b NotCarried UnknownType)) ≡ class - refused_from
    go true b p q = let e : class ≡ refused_from + null_object = eqb-true class (refused_from + null_object) p in omega arith
    go false true p q = let e : class ≡ refused_from + not_carried = eqb-true class (refused_from + not_carried) q in omega arith
    go false false p q =
        let m : class ≡ refused_from + null_object → ⊥ = eqb-false class (refused_from + null_object) p in
        let n : class ≡ refused_from + not_carried → ⊥ = eqb-false class (refused_from + not_carried) q in
        sym (of_three class letter sorted over (λ e. m (omega arith)) (λ e. n (omega arith)))
