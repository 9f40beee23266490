-- A row of entries: the complete entries that a line table has from a place on, while instructions are left, and how the row ends. The line,
-- the place and the instructions left after it are functions of its entries. 01's walk is a reading of the row (`proofs/Walks`); 02's
-- repair (K9) takes its beginning, and its joins (K12) and pieces (K6) are rows one behind another.
use Rattle.std.specs.Prelude.{◌≡◌, true, false, cond, List, [], ◌∷◌, ◌++◌, map, ℕ, zero, suc, ◌+◌, ◌-◌, ◌≤◌, ◌<◌, min, length, replicate, leb, ltb, eqb}
use Rattle.refusals.specs.Numbers.{number_range}
use Rattle.lineentry.specs.declared.Location.{Location}
use Rattle.lineentry.specs.declared.Span.{Span}
use Rattle.lineentry.specs.declared.Entry.{Entry}
use Rattle.lineentry.specs.declared.Entry.TheVariants.{Covers, Stop, OutOfRange}
use Rattle.lineentry.specs.Entry.{entry_at}
use Rattle.linetable.specs.Walk.{Reading, done, refused, joined, ended, left_over}

-- How a row ends: every instruction is placed; the table has ended; a first byte without 0x80; an entry of which bytes are
-- missing; one that is refused; a complete entry of more instructions than are left.
pub data Ending : Type 0 where
  placed_all : Ending
  table_end : Ending
  stop_byte : Ending
  cut_short : Span → Ending
  out_of_range : Ending
  past_count : Span → Ending

pub record Row : Type 0 where
  pub entries : List Span
  pub ending : Ending

abbrev pub alone : Ending → Row
alone x = record { entries = []; ending = x }

-- entries before a row
abbrev pub before : List Span → Row → Row
before es r = record { entries = es ++ r.entries; ending = r.ending }

-- no entry at p: a byte stops, or none is there
abbrev pub no_entry : List ℕ → ℕ → Ending
no_entry s p = cond (ltb p (length s)) stop_byte table_end

-- The row from the entry at p on, where `on` is the row behind it. An entry of which a byte is missing ends the row, also where it runs past
-- the count; so does one that is refused.
abbrev pub from_entry : (ℕ → ℕ → ℕ → Row) → List ℕ → ℕ → ℕ → Entry → Row
from_entry on s p left (Covers e) =
    cond e.missing (alone (cut_short e))
    (cond (leb e.instructions left) (before (e ∷ []) (on e.line e.next (left - e.instructions)))
    (alone (past_count e)))
from_entry on s p left Stop = alone (no_entry s p)
from_entry on s p left OutOfRange = alone out_of_range

-- Each entry places one or more, so as many turns as there are instructions are enough.
abbrev pub rows : ℕ → List ℕ → ℕ → ℕ → ℕ → Row
rows zero s line p left = alone placed_all
rows (suc turns) s line p left = cond (eqb left 0) (alone placed_all) (from_entry (rows turns s) s p left (entry_at s line p))

-- The row of s from the place p on, at the line so far, with `left` instructions to place.
unfoldable pub row : List ℕ → ℕ → ℕ → ℕ → Row
row s line p left = rows left s line p left

-- ---- a row that stands k bytes further on
abbrev pub shift_span : ℕ → Span → Span
shift_span k e = record { instructions = e.instructions; line = e.line; location = e.location; next = k + e.next; missing = e.missing }

abbrev pub shift_ending : ℕ → Ending → Ending
shift_ending k placed_all = placed_all
shift_ending k table_end = table_end
shift_ending k stop_byte = stop_byte
shift_ending k (cut_short e) = cut_short (shift_span k e)
shift_ending k out_of_range = out_of_range
shift_ending k (past_count e) = past_count (shift_span k e)

abbrev pub shift_row : ℕ → Row → Row
shift_row k r = record { entries = map (shift_span k) r.entries; ending = shift_ending k r.ending }

-- ---- what entries come to
abbrev pub line_after : ℕ → List Span → ℕ
line_after line [] = line
line_after line (e ∷ es) = line_after e.line es

abbrev pub place_after : ℕ → List Span → ℕ
place_after p [] = p
place_after p (e ∷ es) = place_after e.next es

abbrev pub total : List Span → ℕ
total [] = 0
total (e ∷ es) = e.instructions + total es

abbrev pub locations : List Span → List Location
locations [] = []
locations (e ∷ es) = replicate e.instructions e.location ++ locations es

-- Complete entries, one behind another.
abbrev pub Chain : List ℕ → ℕ → ℕ → List Span → Type 0
Chain s line p [] = Unit {0}
Chain s line p (e ∷ es) = (entry_at s line p ≡ Covers e) × (e.missing ≡ false) × Chain s e.line e.next es

-- Why a row ends where it does: at p, with `left` instructions to place.
abbrev pub Ends : List ℕ → ℕ → ℕ → ℕ → Ending → Type 0
Ends s line p left placed_all = left ≡ 0
Ends s line p left table_end = (0 < left) × (length s ≤ p)
Ends s line p left stop_byte = (0 < left) × (p < length s) × (entry_at s line p ≡ Stop)
Ends s line p left (cut_short e) = (0 < left) × (entry_at s line p ≡ Covers e) × (e.missing ≡ true)
Ends s line p left out_of_range = (0 < left) × (entry_at s line p ≡ OutOfRange)
Ends s line p left (past_count e) = (0 < left) × (entry_at s line p ≡ Covers e) × (e.missing ≡ false) × (left < e.instructions)

-- What a row is, without its turns: `proofs/Chains` shows that just one row is so, and it is `row`.
pub record Rowed (s : List ℕ) (line p left : ℕ) (r : Row) : Type 0 where
  pub chain : Chain s line p r.entries
  pub within : total r.entries ≤ left
  pub ends : Ends s (line_after line r.entries) (place_after p r.entries) (left - total r.entries) r.ending

-- ---- 01's reading of a row
-- the instructions of an entry, at most those left; the others take the first line
abbrev pub partly : Location → ℕ → Span → Reading
partly first left e = done (replicate (min e.instructions left) e.location ++ replicate (left - e.instructions) first) (min e.instructions left) false

abbrev pub ending_reads : List ℕ → Location → ℕ → ℕ → Ending → Reading
ending_reads s first p left placed_all = ended s p
ending_reads s first p left table_end = left_over first left
ending_reads s first p left stop_byte = left_over first left
ending_reads s first p left (cut_short e) = partly first left e
ending_reads s first p left out_of_range = refused number_range p
ending_reads s first p left (past_count e) = partly first left e

abbrev pub row_reads : List ℕ → Location → ℕ → ℕ → Row → Reading
row_reads s first p left r =
    joined (locations r.entries) (total r.entries) false
    (ending_reads s first (place_after p r.entries) (left - total r.entries) r.ending)
