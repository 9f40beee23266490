-- `==` on slices of bytes says whether they are the same. Assumes nothing.
use mathlib.Core.Path.{◌≡◌, refl, ap, ◌∙◌}
use mathlib.Core.Bool.{Bool, true, false, cond, ◌&&◌}
use mathlib.Core.List.{List, [], ◌∷◌}
use Prim.Native.Nat.{ℕ}
use lib.Dec.{eqb}
use Rattle.std.specs.Cmp.Lexicographic.{pointwise}
use Rattle.std.specs.Prelude.{nat_eq}
use Rattle.editions.specs.Archive.{same}

pub equals_same : (a b : List ℕ) → pointwise nat_eq a b ≡ same a b
unfolding same
equals_same [] [] = refl
equals_same [] (y ∷ b) = refl
equals_same (x ∷ a) [] = refl
equals_same (x ∷ a) (y ∷ b) = ap (λ t. eqb x y && t) (equals_same a b) ∙ go (eqb x y)
  where
    go : (c : Bool) → (c && same a b) ≡ cond c (same a b) false
    go true = refl
    go false = refl
