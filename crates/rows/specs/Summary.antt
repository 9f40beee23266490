-- No export and no promise rests on this page.
-- What one walk over a table tells of its row: how it ends, where, at which line, and with how many instructions left.
use Rattle.std.specs.Prelude.{List, ℕ, ◌+◌, ◌-◌, length}
use Rattle.rows.specs.Row.{Ending, placed_all, table_end, stop_byte, cut_short, out_of_range, past_count, Row, row, line_after, place_after, total}
use Rattle.rows.specs.declared.How.{How}
use Rattle.rows.specs.declared.How.TheVariants as way
use Rattle.rows.specs.declared.RowEnd.{RowEnd}

-- The ways in which a row ends: every instruction is placed; the table has ended or stops; an entry is cut, is refused, or
-- runs past the count.
abbrev pub how_of : Ending → How
how_of placed_all = way.AllPlaced
how_of table_end = way.Ended
how_of stop_byte = way.Ended
how_of (cut_short e) = way.Cut
how_of out_of_range = way.Refused
how_of (past_count e) = way.PastCount

-- the place after the last kept entry, a shortened one included
abbrev pub kept_to : ℕ → Ending → ℕ
kept_to p placed_all = p
kept_to p table_end = p
kept_to p stop_byte = p
kept_to p (cut_short e) = p
kept_to p out_of_range = p
kept_to p (past_count e) = e.next

abbrev pub row_end : How → ℕ → ℕ → ℕ → ℕ → ℕ → RowEnd
row_end how entries line place next left = record { how = how; entries = entries; line = line; place = place; next = next; left = left }

-- what is told of a row from p on, behind so many entries
abbrev pub summary_of : ℕ → ℕ → ℕ → ℕ → Row → RowEnd
summary_of entries line p left r =
    row_end (how_of r.ending) (entries + length r.entries) (line_after line r.entries) (place_after p r.entries) (kept_to (place_after p r.entries) r.ending) (left - total r.entries)

-- the whole table's
unfoldable pub summary : List ℕ → ℕ → ℕ → RowEnd
summary s first count = summary_of 0 first 0 count (row s first 0 count)
