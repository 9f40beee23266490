-- 02, K4, over the locations themselves: which instructions start a row, how many of them do, and which is the k-th. Records are four numbers
-- an instruction, as `sill_locate` leaves them, the line first.
use Rattle.std.specs.Prelude.{Bool, true, false, not, cond, List, ℕ, zero, suc, ◌+◌, ◌-◌, ◌*◌, get_or, eqb, Option, None, Some}

abbrev pub line_of : List ℕ → ℕ → ℕ
line_of records i = get_or records (4 * i) 0

-- "set where its line differs from the one before (the first is always set)"
unfoldable pub is_start : List ℕ → ℕ → Bool
is_start records i = cond (eqb i 0) true (not (eqb (line_of records i) (line_of records (i - 1))))

abbrev pub bit : Bool → ℕ
bit true = 1
bit false = 0

-- "a count over the locations themselves": how many of the n instructions from i on are starts
unfoldable pub starts_in : List ℕ → ℕ → ℕ → ℕ
starts_in records i zero = 0
starts_in records i (suc n) = bit (is_start records i) + starts_in records (i + 1) n

-- "where is the k-th start", of the n instructions from i on; "k counts from 1"
unfoldable pub kth_start : List ℕ → ℕ → ℕ → ℕ → Option ℕ
kth_start records i zero k = None
kth_start records i (suc n) k = cond (is_start records i) (cond (eqb k 1) (Some i) (kth_start records (i + 1) n (k - 1))) (kth_start records (i + 1) n k)
