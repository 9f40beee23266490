-- 02, K9: "a repair that takes a table, first line and instruction count and makes a whole one. It keeps complete entries up to the first stop,
-- cut or refused entry; shortens the entry that runs past the count and drops the rest; and covers the remaining instructions with code-15
-- entries of eight, then the remainder."
use Rattle.std.specs.Prelude.{cond, List, [], ◌∷◌, ◌++◌, ℕ, ◌+◌, ◌-◌, ◌*◌, ◌/◌, ◌%◌, length, replicate, get_or, take, drop, eqb}
use Rattle.rows.specs.Row.{Ending, placed_all, table_end, stop_byte, cut_short, out_of_range, past_count, Row, row, place_after, total}

-- "code-15 entries of eight, then the remainder"
abbrev pub fill : ℕ → List ℕ
fill n = replicate (n / 8) 0xFF ++ cond (eqb (n % 8) 0) [] ((0xF7 + n % 8) ∷ [])

-- the first byte b of an entry, for n instructions: its three low bits are the length less one
abbrev pub head_for : ℕ → ℕ → ℕ
head_for b n = b / 8 * 8 + (n - 1)

-- What stands behind the kept entries, which end at p with `left` instructions to place: the entry that runs past the count,
-- shortened; or entries that cover what is left.
abbrev pub mended : List ℕ → ℕ → ℕ → Ending → List ℕ
mended s p left (past_count e) = head_for (get_or s p 0) left ∷ take (e.next - (p + 1)) (drop (p + 1) s)
mended s p left placed_all = fill left
mended s p left table_end = fill left
mended s p left stop_byte = fill left
mended s p left (cut_short e) = fill left
mended s p left out_of_range = fill left

-- the kept entries' bytes, and what comes behind them
abbrev pub mend_row : List ℕ → ℕ → Row → List ℕ
mend_row s count r = take (place_after 0 r.entries) s ++ mended s (place_after 0 r.entries) (count - total r.entries) r.ending

-- the repaired table
unfoldable pub salvaged : List ℕ → ℕ → ℕ → List ℕ
salvaged s first count = mend_row s count (row s first 0 count)

-- "A list states entries kept, bytes dropped, whether one was shortened and instructions covered." A shortened entry is kept; dropped are the
-- bytes behind the last kept entry; covered are the instructions under the added entries.
pub record Account : Type 0 where
  pub kept : ℕ
  pub dropped : ℕ
  pub shortened : ℕ
  pub covered : ℕ

abbrev pub account : List ℕ → ℕ → Row → Account
account s count r = of r.ending where
  covers : Account
  covers = record { kept = length r.entries; dropped = length s - place_after 0 r.entries; shortened = 0; covered = count - total r.entries }

  of : Ending → Account
  of (past_count e) = record { kept = length r.entries + 1; dropped = length s - e.next; shortened = 1; covered = 0 }
  of placed_all = covers
  of table_end = covers
  of stop_byte = covers
  of (cut_short e) = covers
  of out_of_range = covers

-- the list of a repair
unfoldable pub salvage : List ℕ → ℕ → ℕ → Account
salvage s first count = account s count (row s first 0 count)
