-- The split's promises, over its definitions and its contract: one answer per input, and each list said of one name at a time.
-- They rest on `Ranks` and assume nothing.
use mathlib.Core.Path.{◌≡◌, sym, ap, ◌∙◌}
use mathlib.Core.Bool.{true}
use mathlib.Core.List.{List}
use mathlib.Core.Logic.{◌⊎◌, inl, inr}
use Prim.Native.Nat.{ℕ, ◌+◌, ◌<◌}
use native.Mathlib.Nat.{zero-add}
use native.Mathlib.Omega.{arith}
use lib.ListN.{length, get_or}
use borrow.Author.Tests.{lt-ltb}
use Rattle.std.specs.Prelude.{Result}
use Rattle.refusals.specs.Faults.{refused}
use Rattle.refusals.specs.declared.Fault.{Fault}
use Rattle.refusals.specs.declared.Refusal.TheVariants.{InputTooLong}
use Rattle.refusals.specs.Limits.{most_bytes, nothing}
use Rattle.localsplus.specs.declared.Rooms.{Rooms}
use Rattle.localsplus.specs.declared.Split.{Split}
use Rattle.localsplus.specs.Kind.{cell_bit, free_bit, has}
use Rattle.localsplus.specs.Lists.{positions, mapped, deref_map, argument_of, cell_args_from}
use Rattle.localsplus.specs.Answer.{checks, answered, split_of, IsSplit}
use Rattle.localsplus.proofs.Turns.{by_test}
use Rattle.localsplus.proofs.Ranks.{rank, Rising, length-positions, positions_rise, positions_at, rank_below, length-map_from, map_at, length_arguments, arguments_at}

-- One answer per input: two calls with the same arguments, whose stores are as long, agree in the answer and in every store,
-- whatever the stores held before.
pub one_answer : {kinds : List ℕ} {names args kwonly flags : ℕ} {l c f m a l₀ c₀ f₀ m₀ a₀ : List ℕ} {r s : Result Split Fault} {l₁ c₁ f₁ m₁ a₁ l₂ c₂ f₂ m₂ a₂ : List ℕ}
    → length l ≡ length l₀
    → length c ≡ length c₀
    → length f ≡ length f₀
    → length m ≡ length m₀
    → length a ≡ length a₀
    → IsSplit kinds names args kwonly flags l c f m a r l₁ c₁ f₁ m₁ a₁
    → IsSplit kinds names args kwonly flags l₀ c₀ f₀ m₀ a₀ s l₂ c₂ f₂ m₂ a₂
    → (r ≡ s) × (l₁ ≡ l₂) × (c₁ ≡ c₂) × (f₁ ≡ f₂) × (m₁ ≡ m₂) × (a₁ ≡ a₂)
one_answer el ec ef em ea p q = (cc, cc, cc, cc, cc, cc)

-- Too many kind bytes are refused before all else, whatever the other arguments are.
pub too_long : (kinds : List ℕ) (names args kwonly flags : ℕ) (rooms : Rooms) → most_bytes < length kinds → split_of kinds names args kwonly flags rooms ≡ refused InputTooLong 0
unfolding split_of answered checks
too_long kinds names args kwonly flags rooms h = rw (lt-ltb most_bytes (length kinds) h)

module _ (kinds : List ℕ) where
  -- The positions rise and are positions of names, so no name comes twice.
  pub rising : (bit : ℕ) → Rising 0 (length kinds) (positions bit kinds)
  rising bit = positions_rise bit 0 (length kinds) kinds (omega arith)

  -- The map has one number for each name, and the cell-to-argument list one for each Cell.
  pub map-length : length (deref_map kinds) ≡ length kinds
  map-length = length-map_from 0 (length (positions cell_bit kinds)) kinds

  pub arguments_length : (sum : ℕ) → length (cell_args_from sum 0 kinds) ≡ length (positions cell_bit kinds)
  arguments_length sum = length_arguments sum 0 kinds ∙ sym (length-positions cell_bit 0 kinds)

  module _ (i : ℕ) (h : i < length kinds) where
    -- Every name that has a bit is among its positions, at its rank.
    pub listed : (bit : ℕ) → has bit (get_or kinds i 0) ≡ true → get_or (positions bit kinds) (rank bit kinds i) 0 ≡ i
    listed bit e = positions_at bit 0 kinds i h e ∙ zero-add i

    -- A Cell's number in the cell-to-argument list stands at its rank too.
    pub argument_listed : (sum : ℕ) → has cell_bit (get_or kinds i 0) ≡ true → get_or (cell_args_from sum 0 kinds) (rank cell_bit kinds i) 0 ≡ argument_of sum i (get_or kinds i 0)
    argument_listed sum e = arguments_at sum 0 kinds i h e ∙ ap (λ p. argument_of sum p (get_or kinds i 0)) (zero-add i)

    -- The map of a name: the Cell's rank, or cells + the Free's rank, or nothing, Free before Cell.
    pub mapped-by_rank : get_or (deref_map kinds) i 0 ≡ mapped (rank cell_bit kinds i) (length (positions cell_bit kinds) + rank free_bit kinds i) (get_or kinds i 0)
    mapped-by_rank =
        map_at 0 (length (positions cell_bit kinds)) kinds i h
        ∙ ap (λ c. mapped c (length (positions cell_bit kinds) + rank free_bit kinds i) (get_or kinds i 0)) (zero-add (rank cell_bit kinds i))

    -- Each number of the map is below cells + frees, or nothing.
    pub mapped-below : (get_or (deref_map kinds) i 0 < length (positions cell_bit kinds) + length (positions free_bit kinds)) ⊎ (get_or (deref_map kinds) i 0 ≡ nothing)
    unfolding mapped
    mapped-below =
        let cells = length-positions cell_bit 0 kinds in
        let frees = length-positions free_bit 0 kinds in
        by_test (has free_bit (get_or kinds i 0))
        (λ f. inl (rw (mapped-by_rank, f) (omega (arith, cells, frees, rank_below free_bit kinds i h f))))
        (λ f. by_test (has cell_bit (get_or kinds i 0))
        (λ c. inl (rw (mapped-by_rank, f, c) (omega (arith, cells, frees, rank_below cell_bit kinds i h c))))
        (λ c. inr (rw (mapped-by_rank, f, c))))
