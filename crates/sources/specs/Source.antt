-- What one entry of a location table tells of the place that it gives: "the sum of: 1 from an entry; 2 the entry has a line; 4 a column and 8
-- an end column; 16 it has a line, and line and end line are above 0 as stored; 32 a byte of the entry is missing".
use Rattle.std.specs.Prelude.{Option, Some, None, ◌≡◌, Bool, false, not, ◌&&◌, cond, List, ℕ, ◌+◌, ◌/◌, ◌%◌, max, ltb, eqb}
use Rattle.lineentry.specs.declared.Varint.{Varint}
use Rattle.lineentry.specs.Varint.{byte_at, varint_at}
use Rattle.lineentry.specs.declared.Location.{Location}
use Rattle.lineentry.specs.Line.{origin, as_signed, moved, shown}
use Rattle.sources.specs.declared.Number.{Number}
use Rattle.sources.specs.declared.LongForm.{LongForm}

-- the code of the entry at p
abbrev pub code_at : List ℕ → ℕ → ℕ
code_at s p = (byte_at s p).value / 8 % 16

-- A number of the entry, and the place after it. No entry that covers instructions has a number that is too long.
abbrev pub number_in : ℕ → Option Varint → Number
number_in p (Some w) = record { value = w.value; next = w.next }
number_in p None = record { value = 0; next = p }

unfoldable pub number_at : List ℕ → ℕ → Number
number_at s p = number_in p (varint_at s p)

-- Code 14, behind its first byte: "signed step, end-line step, columns plus one". All but the step, which gives the entry's own line.
abbrev pub long_from : List ℕ → ℕ → LongForm
long_from s p =
    record { end_step = (number_at s p).value; column = (number_at s (number_at s p).next).value; end_column = (number_at s (number_at s (number_at s p).next).next).value }

unfoldable pub long_at : List ℕ → ℕ → LongForm
long_at s p = long_from s (number_at s p).next

-- "2 the entry has a line (any code but 15)"
abbrev pub has_line : ℕ → Bool
has_line code = not (eqb code 15)

-- "4 a column and 8 an end column (codes 0 to 12 both; 14 each where its number is not 0; 13 and 15 none)"
abbrev pub has_column : ℕ → ℕ → Bool
has_column code number = cond (eqb code 14) (ltb 0 number) (ltb code 13)

-- A line above 0 as it is stored, which is plus 2^31; and the line after a step likewise.
abbrev pub above : ℕ → Bool
above line = ltb origin line

abbrev pub above_after : Option ℕ → Bool
above_after (Some line) = above line
above_after None = false

-- "line and end line are above 0 as stored": the end line is the line, but for code 14, whose "end-line step is taken as signed"
abbrev pub lines_above : ℕ → ℕ → LongForm → Bool
lines_above code line long = cond (eqb code 14) (above line && above_after (moved line (as_signed long.end_step))) (above line)

abbrev pub bit : ℕ → Bool → ℕ
bit weight told = cond told weight 0

abbrev pub sum : Bool → Bool → Bool → Bool → Bool → ℕ
sum line column end_column positive missing = 1 + bit 2 line + bit 4 column + bit 8 end_column + bit 16 positive + bit 32 missing

-- the byte for an entry of this code, whose line is `line`
abbrev pub source_by : ℕ → ℕ → LongForm → Bool → ℕ
source_by code line long missing =
    sum (has_line code) (has_column code long.column) (has_column code long.end_column) (has_line code && lines_above code line long) missing

-- code 14, whose numbers start at p
unfoldable pub long_source : List ℕ → ℕ → ℕ → Bool → ℕ
long_source s p line missing = source_by 14 line (long_at s p) missing

-- the byte for each instruction of the entry at p, which has this line and of which a byte is missing or not
unfoldable pub source_of : List ℕ → ℕ → ℕ → Bool → ℕ
source_of s p line missing = source_by (code_at s p) line (long_at s (byte_at s p).next) missing

-- What the location of an entry of code 14 shows of these: "Lines of 0 or less show as 1", "columns count from 1; none is 1". Where it shows
-- no 1, it tells the entry's byte, and the numbers need not be read again.
pub record LongShown (long : LongForm) (line : ℕ) (l : Location) : Type 0 where
  pub end : ℕ
  pub ends : moved line (as_signed long.end_step) ≡ Some end
  pub lines : l.line ≡ shown line
  pub end_lines : l.end_line ≡ shown end
  pub columns : l.column ≡ max 1 long.column
  pub end_columns : l.end_column ≡ max 1 long.end_column

abbrev pub above_one : Location → Bool
above_one l = ltb 1 l.line && (ltb 1 l.end_line && (ltb 1 l.column && ltb 1 l.end_column))
