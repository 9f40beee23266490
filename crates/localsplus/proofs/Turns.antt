-- Each list of the split, one kind byte on from position i, and where the bytes end. Assumes nothing.
use mathlib.Core.Path.{◌≡◌, refl}
use mathlib.Core.Bool.{Bool, true, false, and-false}
use mathlib.Core.List.{List, [], ◌∷◌}
use Prim.Native.Nat.{ℕ, ◌+◌, ◌≤◌, ◌<◌}
use native.Mathlib.Numerals.{add-one}
use lib.ListN.{length, get_or, drop, drop_of_length-le}
use lib.Seq.{drop-cons}
use borrow.Author.Tests.{ne_eqb}
use Rattle.refusals.specs.Limits.{nothing}
use Rattle.localsplus.specs.Kind.{cell_bit, free_bit, has}
use Rattle.localsplus.specs.Lists.{positions_from, mapped, counted, map_from, argument_cell, argument_of, cell_args_from, all_nothing}

-- what follows from a test whichever way it falls
pub by_test : {P : Type 0} (t : Bool) → (t ≡ true → P) → (t ≡ false → P) → P
by_test true f g = f refl
by_test false f g = g refl

module _ (kinds : List ℕ) (i : ℕ) (h : i < length kinds) where
  pub positions-has : (bit : ℕ) → has bit (get_or kinds i 0) ≡ true → positions_from bit i (drop i kinds) ≡ i ∷ positions_from bit (i + 1) (drop (i + 1) kinds)
  unfolding positions_from
  positions-has bit e = rw (drop-cons kinds i 0 h, e, add-one i)

  pub positions-lacks : (bit : ℕ) → has bit (get_or kinds i 0) ≡ false → positions_from bit i (drop i kinds) ≡ positions_from bit (i + 1) (drop (i + 1) kinds)
  unfolding positions_from
  positions-lacks bit e = rw (drop-cons kinds i 0 h, e, add-one i)

  pub map-one : (c f : ℕ)
      → map_from c f (drop i kinds)
      ≡ mapped c f (get_or kinds i 0) ∷ map_from (counted cell_bit (get_or kinds i 0) c) (counted free_bit (get_or kinds i 0) f) (drop (i + 1) kinds)
  unfolding map_from
  map-one c f = rw (drop-cons kinds i 0 h, add-one i)

  pub arguments_has : (sum : ℕ) {x : ℕ} → has cell_bit (get_or kinds i 0) ≡ true → x ≡ argument_of sum i (get_or kinds i 0) → cell_args_from sum i (drop i kinds) ≡ x ∷ cell_args_from sum (i + 1) (drop (i + 1) kinds)
  unfolding cell_args_from
  arguments_has sum e q = rw (drop-cons kinds i 0 h, e, q, add-one i)

  pub arguments_lacks : (sum : ℕ) → has cell_bit (get_or kinds i 0) ≡ false → cell_args_from sum i (drop i kinds) ≡ cell_args_from sum (i + 1) (drop (i + 1) kinds)
  unfolding cell_args_from
  arguments_lacks sum e = rw (drop-cons kinds i 0 h, e, add-one i)

  -- a name without an argument says nothing on whether all are nothing
  pub argument_none : (sum : ℕ) → argument_of sum i (get_or kinds i 0) ≡ nothing → all_nothing (cell_args_from sum i (drop i kinds)) ≡ all_nothing (cell_args_from sum (i + 1) (drop (i + 1) kinds))
  unfolding all_nothing
  argument_none sum e =
      by_test (has cell_bit (get_or kinds i 0)) (λ q. rw (arguments_has sum q refl, e)) (λ q. rw (arguments_lacks sum q))

  -- a name with one says that they are not
  pub argument_some : (sum : ℕ) → (argument_of sum i (get_or kinds i 0) ≡ nothing → ⊥) → all_nothing (cell_args_from sum i (drop i kinds)) ≡ false
  unfolding all_nothing argument_of argument_cell
  argument_some sum e =
      by_test (has cell_bit (get_or kinds i 0)) (λ q. rw (arguments_has sum q refl, ne_eqb _ _ e)) (λ q. absurd (e (rw (q, and-false))))

-- no byte is left
module _ (kinds : List ℕ) (i : ℕ) (h : length kinds ≤ i) where
  pub positions_end : (bit : ℕ) → positions_from bit i (drop i kinds) ≡ []
  unfolding positions_from
  positions_end bit = rw (drop_of_length-le kinds h)

  pub map_end : (c f : ℕ) → map_from c f (drop i kinds) ≡ []
  unfolding map_from
  map_end c f = rw (drop_of_length-le kinds h)

  pub arguments_end : (sum : ℕ) → cell_args_from sum i (drop i kinds) ≡ []
  unfolding cell_args_from
  arguments_end sum = rw (drop_of_length-le kinds h)
