-- Bytes and numbers that move from one store to another, one by one; what stands at the front of a store.
use mathlib.Core.Path.{◌≡◌, refl, ap, ◌∙◌}
use mathlib.Core.List.{List, [], ◌∷◌, map}
use Prim.Native.Nat.{ℕ, suc, ◌+◌, ◌-◌, ◌≤◌}
use native.Mathlib.Omega.{arith}
use lib.ListN.{length, take, drop, length-drop}
use lib.Seq.{sets, sets-eq, length-take-le, take-append-le, take_all}
use Rattle.piecestate.specs.State.{low, held_in}

pub record Moving (f : ℕ → ℕ) (out₀ : List ℕ) (at : ℕ) (s : List ℕ) (from size : ℕ) (out : List ℕ) (i : ℕ) : Type 0 where
  pub same : length out ≡ length out₀
  pub comes : sets out₀ at (map f (take size (drop from s))) ≡ sets out (at + i) (map f (take (size - i) (drop (from + i) s)))

pub length-map : (f : ℕ → ℕ) (xs : List ℕ) → length (map f xs) ≡ length xs
length-map f [] = refl
length-map f (x ∷ xs) = ap suc (length-map f xs)

-- the held bytes are as many as are asked for
pub length_held : (s : List ℕ) (n : ℕ) → n ≤ 25 → 40 ≤ length s → length (held_in s n) ≡ n
length_held s n h k = length-map low (take n (drop 10 s)) ∙ length-take-le n (drop 10 s) (omega (arith, length-drop 10 s))

-- what was stored at the front is what stands there
pub front-sets : (ys xs : List ℕ) (n : ℕ) → length xs ≡ n → n ≤ length ys → take n (sets ys 0 xs) ≡ xs
front-sets ys xs n e h =
    rw (sets-eq xs ys 0 (omega arith)) (take-append-le n xs (drop (0 + length xs) ys) (omega arith) ∙ take_all n xs (omega arith))

-- the numbers of held bytes as a part of the state
pub part_held : (s : List ℕ) (n : ℕ) → map low (take (10 + n - 10) (drop 10 s)) ≡ held_in s n
part_held s n = let a : 10 + n - 10 ≡ n = omega arith in ap (λ i. map low (take i (drop 10 s))) a

-- a part of a store from a place to its end
pub part_all : (t : List ℕ) (p : ℕ) → take (length t - p) (drop p t) ≡ drop p t
part_all t p = take_all (length t - p) (drop p t) (omega (arith, length-drop p t))
