-- Ranks: how many names before one have a bit. The walks of the definitions, said of one name at a time. Assumes nothing.
use mathlib.Core.Path.{◌≡◌, refl, ap, ◌∙◌}
use mathlib.Core.Bool.{true, false}
use mathlib.Core.List.{List, [], ◌∷◌}
use Prim.Native.Nat.{ℕ, zero, suc, ◌+◌, ◌≤◌, ◌<◌}
use native.Mathlib.Nat.{add-zero}
use native.Mathlib.Numerals.{add-one}
use native.Mathlib.Omega.{arith}
use lib.ListN.{length, get_or, take}
use Rattle.localsplus.specs.Kind.{cell_bit, free_bit, has}
use Rattle.localsplus.specs.Lists.{positions_from, mapped, counted, map_from, argument_of, cell_args_from}
use Rattle.localsplus.proofs.Turns.{by_test}

-- how many names have the bit
unfoldable pub count : ℕ → List ℕ → ℕ
count bit [] = 0
count bit (kind ∷ kinds) = counted bit kind (count bit kinds)

-- how many names before position i have it
abbrev pub rank : ℕ → List ℕ → ℕ → ℕ
rank bit kinds i = count bit (take i kinds)

-- numbers that rise, from lo on and below hi
abbrev pub Rising : ℕ → ℕ → List ℕ → Type 0
Rising lo hi [] = Unit {0}
Rising lo hi (x ∷ xs) = (lo ≤ x) × (x < hi) × Rising (x + 1) hi xs

rising_lower : (lo lo' hi : ℕ) (xs : List ℕ) → lo ≤ lo' → Rising lo' hi xs → Rising lo hi xs
rising_lower lo lo' hi [] h r = tt
rising_lower lo lo' hi (x ∷ xs) h r = (omega (arith, r.0), r.1, r.2)

-- ---- one name, by whether it has the bit

counted_has : (bit kind n : ℕ) → has bit kind ≡ true → counted bit kind n ≡ n + 1
unfolding counted
counted_has bit kind n e = rw e

counted-lacks : (bit kind n : ℕ) → has bit kind ≡ false → counted bit kind n ≡ n
unfolding counted
counted-lacks bit kind n e = rw e

-- a name counts the same before a sum and after
counted-add : (bit kind n m : ℕ) → counted bit kind n + m ≡ n + counted bit kind m
counted-add bit kind n m =
    by_test (has bit kind)
    (λ e. rw (counted_has bit kind n e, counted_has bit kind m e) (omega arith))
    (λ e. rw (counted-lacks bit kind n e, counted-lacks bit kind m e))

counted_le : (bit kind n : ℕ) → (n ≤ counted bit kind n) × (counted bit kind n ≤ n + 1)
counted_le bit kind n =
    by_test (has bit kind) (λ e. omega (arith, counted_has bit kind n e)) (λ e. omega (arith, counted-lacks bit kind n e))

-- ---- the positions

-- there are as many as names with the bit
pub length-positions : (bit p : ℕ) (kinds : List ℕ) → length (positions_from bit p kinds) ≡ count bit kinds
unfolding positions_from count
length-positions bit p [] = refl
length-positions bit p (kind ∷ kinds) =
    let more = length-positions bit (p + 1) kinds in
    by_test (has bit kind)
    (λ e. rw (e, counted_has bit kind (count bit kinds) e, more, add-one))
    (λ e. rw (e, counted-lacks bit kind (count bit kinds) e, more))

-- they rise, and are positions of names
pub positions_rise : (bit p hi : ℕ) (kinds : List ℕ) → p + length kinds ≤ hi → Rising p hi (positions_from bit p kinds)
unfolding positions_from
positions_rise bit p hi [] h = tt
positions_rise bit p hi (kind ∷ kinds) h =
    let more = positions_rise bit (p + 1) hi kinds (omega arith) in
    by_test (has bit kind) (λ e. rw e (omega arith, omega arith, more)) (λ e. rw e (rising_lower p (p + 1) hi (positions_from bit (p + 1) kinds) (omega arith) more))

-- a name that has the bit stands at its rank
pub positions_at : (bit p : ℕ) (kinds : List ℕ) (i : ℕ) → i < length kinds → has bit (get_or kinds i 0) ≡ true → get_or (positions_from bit p kinds) (rank bit kinds i) 0 ≡ p + i
unfolding positions_from count
positions_at bit p [] i h q = absurd (omega arith)
positions_at bit p (kind ∷ kinds) zero h q = rw q (omega arith)
positions_at bit p (kind ∷ kinds) (suc i) h q =
    let more = positions_at bit (p + 1) kinds i (omega arith) q in
    by_test (has bit kind)
    (λ e. rw (e, counted_has bit kind (rank bit kinds i) e, add-one (rank bit kinds i), more) (omega arith))
    (λ e. rw (e, counted-lacks bit kind (rank bit kinds i) e, more) (omega arith))

-- its rank is below their number
pub rank_below : (bit : ℕ) (kinds : List ℕ) (i : ℕ) → i < length kinds → has bit (get_or kinds i 0) ≡ true → rank bit kinds i < count bit kinds
unfolding count
rank_below bit [] i h q = absurd (omega arith)
rank_below bit (kind ∷ kinds) zero h q = rw (counted_has bit kind (count bit kinds) q) (omega arith)
rank_below bit (kind ∷ kinds) (suc i) h q =
    let more = rank_below bit kinds i (omega arith) q in
    by_test (has bit kind)
    (λ e. rw (counted_has bit kind (rank bit kinds i) e, counted_has bit kind (count bit kinds) e) (omega arith))
    (λ e. rw (counted-lacks bit kind (rank bit kinds i) e, counted-lacks bit kind (count bit kinds) e) more)

-- ---- the map

pub length-map_from : (c f : ℕ) (kinds : List ℕ) → length (map_from c f kinds) ≡ length kinds
unfolding map_from
length-map_from c f [] = refl
length-map_from c f (kind ∷ kinds) = ap suc (length-map_from (counted cell_bit kind c) (counted free_bit kind f) kinds)

-- each name's number goes by its ranks
pub map_at : (c f : ℕ) (kinds : List ℕ) (i : ℕ) → i < length kinds → get_or (map_from c f kinds) i 0 ≡ mapped (c + rank cell_bit kinds i) (f + rank free_bit kinds i) (get_or kinds i 0)
unfolding map_from count
map_at c f [] i h = absurd (omega arith)
map_at c f (kind ∷ kinds) zero h = rw (add-zero c, add-zero f)
map_at c f (kind ∷ kinds) (suc i) h =
    map_at (counted cell_bit kind c) (counted free_bit kind f) kinds i (omega arith)
    ∙ rw (counted-add cell_bit kind c (rank cell_bit kinds i), counted-add free_bit kind f (rank free_bit kinds i))

-- ---- the cell-to-argument list

-- one number for each Cell
pub length_arguments : (sum p : ℕ) (kinds : List ℕ) → length (cell_args_from sum p kinds) ≡ count cell_bit kinds
unfolding cell_args_from count
length_arguments sum p [] = refl
length_arguments sum p (kind ∷ kinds) =
    let more = length_arguments sum (p + 1) kinds in
    by_test (has cell_bit kind)
    (λ e. rw (e, counted_has cell_bit kind (count cell_bit kinds) e, more, add-one))
    (λ e. rw (e, counted-lacks cell_bit kind (count cell_bit kinds) e, more))

-- a Cell's number stands at its rank
pub arguments_at : (sum p : ℕ) (kinds : List ℕ) (i : ℕ) → i < length kinds → has cell_bit (get_or kinds i 0) ≡ true
    → get_or (cell_args_from sum p kinds) (rank cell_bit kinds i) 0 ≡ argument_of sum (p + i) (get_or kinds i 0)
unfolding cell_args_from count
arguments_at sum p [] i h q = absurd (omega arith)
arguments_at sum p (kind ∷ kinds) zero h q = rw (q, add-zero)
arguments_at sum p (kind ∷ kinds) (suc i) h q =
    let more = arguments_at sum (p + 1) kinds i (omega arith) q in
    let next : p + 1 + i ≡ p + suc i = omega arith in
    by_test (has cell_bit kind)
    (λ e. rw (e, counted_has cell_bit kind (rank cell_bit kinds i) e, add-one (rank cell_bit kinds i), more, next))
    (λ e. rw (e, counted-lacks cell_bit kind (rank cell_bit kinds i) e, more, next))
