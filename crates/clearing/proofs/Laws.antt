-- Laws on lent stores: what is written over zeros.
use mathlib.Core.Path.{◌≡◌}
use Prim.Native.Nat.{ℕ, zero, suc, ◌-◌, ◌≤◌}
use native.Mathlib.Omega.{arith}
use native.Mathlib.Numerals.{unary_clauses}
use native.Mathlib.Nat.{zero-add}
use mathlib.Core.List.{List, []}
use lib.ListN.{length, drop, length-append, length-replicate}
use lib.Seq.{sets, sets-eq}
use Rattle.clearing.specs.Lent.{zeros, padded}

pub drop-zeros : (k n : ℕ) → drop k (zeros n) ≡ zeros (n - k)
drop-zeros zero n = simp unary_clauses
drop-zeros (suc k) zero =
    let none : 0 - suc k ≡ 0 = omega arith in
    rw none
drop-zeros (suc k) (suc n) = simp unary_clauses (drop-zeros k n)

-- Numbers stored from the start of a cleared store, one after another, leave the store padded.
pub sets-padded : (n : ℕ) (xs : List ℕ) → length xs ≤ n → sets (zeros n) 0 xs ≡ padded n xs
unfolding padded
sets-padded n xs h =
    let whole = sets-eq xs (zeros n) 0 (simp length-replicate (omega arith)) in
    rw (zero-add (length xs), drop-zeros (length xs) n) at (whole)

-- a store keeps its length
pub length-padded : (n : ℕ) (xs : List ℕ) → length xs ≤ n → length (padded n xs) ≡ n
unfolding padded
length-padded n xs h = simp (length-append, length-replicate) (omega arith)

-- nothing written leaves zeros
pub padded_none : (n : ℕ) → padded n [] ≡ zeros n
unfolding padded
padded_none n = simp unary_clauses
