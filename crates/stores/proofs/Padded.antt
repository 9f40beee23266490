-- Laws of padded stores, whatever their records are: a store among what was written, zeros written over padding, a lookup.
-- Assumes nothing.
use mathlib.Core.Path.{◌≡◌, refl, sym, ap, ◌∙◌}
use Prim.Native.Nat.{ℕ, zero, suc, ◌+◌, ◌-◌, ◌≤◌, ◌<◌}
use native.Mathlib.Omega.{arith}
use mathlib.Core.List.{List, [], ◌∷◌, ◌++◌, append_assoc}
use lib.ListN.{length, get_or, set, length-append, length-set, length-replicate, replicate-append-replicate}
use lib.Seq.{sets, set-append_left}
use Rattle.clearing.specs.Lent.{zeros, padded}

-- a number stored among those that were written
pub set-padded : (n : ℕ) (xs : List ℕ) (i v : ℕ) → i < length xs → set (padded n xs) i v ≡ padded n (set xs i v)
unfolding padded
set-padded n xs i v h = set-append_left xs _ i v h ∙ ap (λ k. set xs i v ++ zeros (n - k)) (sym (length-set xs i v))

-- several of them
pub sets-inside : (n : ℕ) (xs : List ℕ) (i : ℕ) (vs : List ℕ) → i + length vs ≤ length xs → sets (padded n xs) i vs ≡ padded n (sets xs i vs)
sets-inside n xs i [] h = refl
sets-inside n xs i (v ∷ vs) h =
    ap (λ t. sets t (suc i) vs) (set-padded n xs i v (omega arith)) ∙ sets-inside n (set xs i v) (suc i) vs (simp length-set (omega arith))

-- zeros at the end are padding
pub padded-zeros : (n : ℕ) (xs : List ℕ) (k : ℕ) → length xs + k ≤ n → padded n (xs ++ zeros k) ≡ padded n xs
unfolding padded
padded-zeros n xs k h =
    append_assoc xs (zeros k) _
    ∙ ap (λ t. xs ++ t) (replicate-append-replicate k (n - length (xs ++ zeros k)) 0
    ∙ ap zeros (rest (length (xs ++ zeros k)) (length-append xs (zeros k) ∙ ap (λ m. length xs + m) (length-replicate k 0))))
  where
    rest : (l : ℕ) → l ≡ length xs + k → k + (n - l) ≡ n - length xs
    rest l e = omega arith

get_d_zeros : (n i : ℕ) → get_or {A = ℕ} (zeros n) i 0 ≡ 0
get_d_zeros zero i = refl
get_d_zeros (suc n) zero = refl
get_d_zeros (suc n) (suc i) = get_d_zeros n i

get_d_append-zeros : (xs : List ℕ) (n i : ℕ) → get_or {A = ℕ} (xs ++ zeros n) i 0 ≡ get_or xs i 0
get_d_append-zeros [] n i = get_d_zeros n i
get_d_append-zeros (x ∷ xs) n zero = refl
get_d_append-zeros (x ∷ xs) n (suc i) = get_d_append-zeros xs n i

-- a lookup that answers 0 past the end does not see the padding
pub get_d_padded : (n : ℕ) (xs : List ℕ) (i : ℕ) → get_or (padded n xs) i 0 ≡ get_or xs i 0
unfolding padded
get_d_padded n xs i = get_d_append-zeros xs (n - length xs) i
