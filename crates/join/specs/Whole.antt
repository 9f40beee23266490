-- 02, K12: what a join asks of one table, without its records: whether it is whole, and the running line that it leaves. Both are told of the
-- row of its entries; `proofs/Reading` shows that they are what 01's walk says.
use Rattle.std.specs.Prelude.{◌≡◌, Bool, true, false, cond, ◌&&◌, List, ℕ, ◌+◌, ◌<◌, length, ltb, eqb, Result, Ok}
use Rattle.refusals.specs.Faults.{refused}
use Rattle.refusals.specs.declared.Fault.{Fault}
use Rattle.refusals.specs.declared.Refusal.TheVariants.{InputTooLong, NumberRange}
use Rattle.refusals.specs.Limits.{most_bytes}
use Rattle.lineentry.specs.declared.Span.{Span}
use Rattle.lineentry.specs.declared.Entry.{Entry}
use Rattle.lineentry.specs.declared.Entry.TheVariants.{Covers, Stop, OutOfRange}
use Rattle.lineentry.specs.Entry.{entry_at}
use Rattle.rows.specs.Row.{Ending, placed_all, table_end, stop_byte, cut_short, out_of_range, past_count, row, line_after, place_after}
use Rattle.join.specs.declared.LineTold.{LineTold}

-- every instruction is placed by complete entries, whose lengths then sum to the count
abbrev pub all_placed : Ending → Bool
all_placed placed_all = true
all_placed table_end = false
all_placed stop_byte = false
all_placed (cut_short e) = false
all_placed out_of_range = false
all_placed (past_count e) = false

-- 01: "whole: every byte used, none missing, no stop, lengths summing to the instruction count"
unfoldable pub whole_for : List ℕ → ℕ → ℕ → Bool
whole_for s first count = all_placed (row s first 0 count).ending && eqb (place_after 0 (row s first 0 count).entries) (length s)

-- The line where the reading ends: that of the last entry of which it placed instructions, so also of one that is cut or runs past the count;
-- before any entry the first line.
abbrev pub end_line : ℕ → Ending → ℕ
end_line line placed_all = line
end_line line table_end = line
end_line line stop_byte = line
end_line line (cut_short e) = e.line
end_line line out_of_range = line
end_line line (past_count e) = e.line

-- the line to which an entry moves
abbrev pub entry_line : ℕ → Entry → ℕ
entry_line line (Covers e) = e.line
entry_line line Stop = line
entry_line line OutOfRange = line

-- 02: "leaving the running line at g". Lines are kept plus 2^31, and are not those that are shown.
unfoldable pub line_of : List ℕ → ℕ → ℕ → ℕ
line_of s first count = end_line (line_after first (row s first 0 count).entries) (row s first 0 count).ending

-- "A line outside signed 32 bits is 18", and a number of 2^32 or more
abbrev pub refuses : Ending → Bool
refuses placed_all = false
refuses table_end = false
refuses stop_byte = false
refuses (cut_short e) = false
refuses out_of_range = true
refuses (past_count e) = false

abbrev pub told : Bool → ℕ → LineTold
told whole line = record { whole = whole; line = line }

-- What is told of a table: 14 at 0, then 18 at the "entry start", else whether it is whole and its line.
unfoldable pub line_told : List ℕ → ℕ → ℕ → Result LineTold Fault
line_told s first count =
    cond (ltb most_bytes (length s)) (refused InputTooLong 0)
    (cond (refuses (row s first 0 count).ending) (refused NumberRange (place_after 0 (row s first 0 count).entries))
    (Ok (told (whole_for s first count) (line_of s first count))))

-- The running line said without the row, as linetable's `FromEntries` says which locations come from entries: from the place p on, with so many
-- instructions to place, the reading ends at the line g. An entry moves the line, one of which bytes are missing too; one that has more
-- instructions than are left is the last.
pub data Leaves (s : List ℕ) : ℕ → ℕ → ℕ → ℕ → Type 0 where
  placed : {line p : ℕ} → Leaves s line p 0 line
  stop : {line p left : ℕ} → entry_at s line p ≡ Stop → Leaves s line p left line
  entry : {line p left g : ℕ} (e : Span) → entry_at s line p ≡ Covers e → Leaves s e.line e.next left g → Leaves s line p (e.instructions + left) g
  beyond : {line p left : ℕ} (e : Span) → entry_at s line p ≡ Covers e → left < e.instructions → Leaves s line p left e.line
