-- A rule of a table, shown at every entry by one test of the whole table that is computed.
-- Assumes nothing.
use mathlib.Core.Path.{◌≡◌, refl, sym, subst}
use mathlib.Core.Bool.{Bool, true, false, cond}
use mathlib.Core.List.{List, [], ◌∷◌}
use Prim.Native.Nat.{ℕ, zero, suc, ◌+◌, ◌<◌}
use native.Mathlib.Omega.{arith}
use lib.Dec.{T}
use lib.ListN.{length, get_or}

pub apart : false ≡ true → ⊥
apart e = subst T (sym e) tt

-- two tests, of which both hold
abbrev pub both : Bool → Bool → Bool
both a b = cond a b false

pub left : (a b : Bool) → both a b ≡ true → a ≡ true
left true b t = refl
left false b t = t

pub right : (a b : Bool) → both a b ≡ true → b ≡ true
right true b t = t
right false b t = absurd (apart t)

-- the test passes at each entry and its number, counted from i
abbrev pub tested : (ℕ → ℕ → Bool) → ℕ → List ℕ → Bool
tested f i [] = true
tested f i (x ∷ xs) = both (f i x) (tested f (suc i) xs)

from : (f : ℕ → ℕ → Bool) (xs : List ℕ) (i : ℕ) → tested f i xs ≡ true → (k : ℕ) → k < length xs → f (i + k) (get_or xs k 0) ≡ true
from f [] i t k h = absurd (omega arith)
from f (x ∷ xs) i t zero h =
    let e : i ≡ i + 0 = omega arith in
    subst (λ (m : ℕ). f m x ≡ true) e (left (f i x) (tested f (suc i) xs) t)
from f (x ∷ xs) i t (suc k) h =
    let e : suc i + k ≡ i + suc k = omega arith in
    subst (λ (m : ℕ). f m (get_or xs k 0) ≡ true) e (from f xs (suc i) (right (f i x) (tested f (suc i) xs) t) k (omega arith))

-- what is tested of the whole table holds of each entry
pub entry : (f : ℕ → ℕ → Bool) (xs : List ℕ) → tested f 0 xs ≡ true → (k : ℕ) → k < length xs → f k (get_or xs k 0) ≡ true
entry f xs t k h =
    let e : 0 + k ≡ k = omega arith in
    subst (λ (m : ℕ). f m (get_or xs k 0) ≡ true) e (from f xs 0 t k h)
