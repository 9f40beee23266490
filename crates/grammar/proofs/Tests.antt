-- Tests and options, as the proofs of several crates take them apart and put them together. Assumes nothing.
use mathlib.Core.Path.{◌≡◌, refl, sym}
use Prim.Native.Nat.{ℕ}
use native.Mathlib.Omega.{arith}
use mathlib.Core.Bool.{Bool, true, false, cond, ◌&&◌}
use mathlib.Core.Option.{Option, none, some}

pub never : {X : Type 0} → ◌≡◌ {A = Bool} false true → X
never e = let apart : ◌≡◌ {A = ℕ} 0 1 = cc in absurd (omega arith)

pub none-some : {A X : Type 0} {a : A} → none ≡ some a → X
none-some e = let apart : ◌≡◌ {A = ℕ} 0 1 = cc in absurd (omega arith)

pub same_some : {A : Type 0} {a b : A} → some a ≡ some b → a ≡ b
same_some e = cc

pub both_true : (a b : Bool) → a && b ≡ true → (a ≡ true) × (b ≡ true)
both_true true b e = (refl, e)
both_true false b e = never e

pub cond-some : {A : Type 0} (b : Bool) (x : Option A) (a : A) → cond b x none ≡ some a → (b ≡ true) × (x ≡ some a)
cond-some true x a e = (refl, e)
cond-some false x a e = none-some e

-- equal tests, and what follows them equal where they hold
pub cond_agree : {A : Type 0} (b b' : Bool) {x x' : A} (y : A) → b ≡ b' → (b ≡ true → x ≡ x') → cond b x y ≡ cond b' x' y
cond_agree true true y e h = h refl
cond_agree false false y e h = refl
cond_agree true false y e h = never (sym e)
cond_agree false true y e h = never e

pub both_agree : (a a' : Bool) {b b' : Bool} → a ≡ a' → (a ≡ true → b ≡ b') → (a && b) ≡ (a' && b')
both_agree true true e h = h refl
both_agree false false e h = refl
both_agree true false e h = never (sym e)
both_agree false true e h = never e

-- tests that follow from one another
pub each_way : (a b : Bool) → (a ≡ true → b ≡ true) → (b ≡ true → a ≡ true) → a ≡ b
each_way true b f g = sym (f refl)
each_way false true f g = g refl
each_way false false f g = refl
