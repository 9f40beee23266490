-- 02, K4: "Two questions: how many starts lie before instruction n, and where is the k-th start." Both over the words of any index, so that there
-- is one answer whatever they hold; what the answers are of an index that was built from records stands in `Promised`.
use Rattle.std.specs.Prelude.{ℕ, zero, suc, ◌+◌, ◌-◌, ◌*◌, ◌/◌, ◌%◌, ◌^◌, cond, List, length, ◌==◌, count_ones, nat_le, nat_lt, slice_index, Option, None, Some, Result, Ok}
use Rattle.refusals.specs.Faults.{refused}
use Rattle.refusals.specs.declared.Fault.{Fault}
use Rattle.refusals.specs.declared.Refusal.TheVariants.{NoRoom, NoSuchStart}
use Rattle.startindex.specs.Index.{blocks_of, need}

-- the running total of block b, and the place of its first word of bits
abbrev pub total_of : List ℕ → ℕ → ℕ
total_of index b = slice_index index (9 * b)

abbrev pub first_word : ℕ → ℕ
first_word b = 9 * b + 1

-- the ones of n words from j on
unfoldable pub ones_of : List ℕ → ℕ → ℕ → ℕ
ones_of index j zero = 0
ones_of index j (suc n) = count_ones (slice_index index j) + ones_of index (j + 1) n

-- "The first answers by adding the ones in the 64-bit words after the running total", the last word by its low bits. A sum that would pass
-- 64 bits wraps.
unfoldable pub before : List ℕ → ℕ → ℕ
before index n =
    (total_of index (n / 512) + (ones_of index (first_word (n / 512)) (n % 512 / 64) + count_ones (slice_index index (first_word (n / 512) + n % 512 / 64) % 2 ^ (n % 64)))) % 2 ^ 64

-- ---- the k-th start: a bisection of the totals, then one block

-- The block where the bisection ends: between `low`, whose total is below k, and `high`, whose total is not. As many turns as there are
-- blocks are enough.
unfoldable pub bisect : ℕ → List ℕ → ℕ → ℕ → ℕ → ℕ
bisect zero index k low high = low
bisect (suc turns) index k low high =
    cond (nat_lt 1 (high - low))
    (cond (nat_lt (total_of index (low + (high - low) / 2)) k) (bisect turns index k (low + (high - low) / 2) high) (bisect turns index k low (low + (high - low) / 2)))
    low

abbrev pub block_with : List ℕ → ℕ → ℕ → ℕ
block_with index blocks k = bisect blocks index k 0 blocks

-- where the k-th one of a word stands, lowest bit first; d bits are left to look at
unfoldable pub kth_bit : ℕ → ℕ → ℕ → ℕ
kth_bit zero word k = 0
kth_bit (suc d) word k = cond (k - word % 2 == 0) 0 (suc (kth_bit d (word / 2) (k - word % 2)))

-- the k-th one of the n words from j on, the first bit of which is that of instruction i
unfoldable pub kth_of : List ℕ → ℕ → ℕ → ℕ → ℕ → Option ℕ
kth_of index j zero i k = None
kth_of index j (suc n) i k =
    cond (nat_le k (count_ones (slice_index index j))) (Some (i + kth_bit 64 (slice_index index j) k)) (kth_of index (j + 1) n (i + 64) (k - count_ones (slice_index index j)))

-- an instruction that there is
abbrev pub in_count : ℕ → Option ℕ → Option ℕ
in_count count None = None
in_count count (Some i) = cond (nat_lt i count) (Some i) None

-- in block b: as many of its ones as k passes the running total by
abbrev pub kth_in : List ℕ → ℕ → ℕ → Option ℕ
kth_in index b k = cond (nat_lt (total_of index b) k) (kth_of index (first_word b) 8 (512 * b) (k - total_of index b)) None

unfoldable pub kth : List ℕ → ℕ → ℕ → Option ℕ
kth index count k = in_count count (kth_in index (block_with index (blocks_of count) k) k)

-- ---- the answers
-- "no k-th start .. 20 at 0"
abbrev pub found : Option ℕ → Result ℕ Fault
found None = refused NoSuchStart 0
found (Some i) = Ok i

-- "Refusals: n beyond the count, or no k-th start (k counts from 1), 20 at 0; store short 17": n equal to the count is not beyond it
unfoldable pub starts_before : List ℕ → ℕ → ℕ → Result ℕ Fault
starts_before index count n =
    cond (nat_lt (length index) (need count)) (refused NoRoom (length index))
    (cond (nat_lt count n) (refused NoSuchStart 0)
    (Ok (before index n)))

unfoldable pub start_at : List ℕ → ℕ → ℕ → Result ℕ Fault
start_at index count k = cond (nat_lt (length index) (need count)) (refused NoRoom (length index)) (found (kth index count k))
