-- `sill_sources`: "A byte an instruction, 0 where it is left over", else what its entry tells (Source), in the order of 01's walk; how many
-- have what; and what the lent bytes hold. "Refusals as `sill_locate`."
use Rattle.std.specs.Prelude.{Bool, not, ◌&&◌, cond, List, [], ◌∷◌, ◌++◌, ℕ, zero, suc, ◌+◌, ◌-◌, ◌/◌, ◌%◌, min, length, replicate, ltb, eqb, Result, Ok}
use Rattle.refusals.specs.Faults.{refused}
use Rattle.refusals.specs.declared.Refusal.{Refusal}
use Rattle.refusals.specs.declared.Refusal.TheVariants.{InputTooLong, NoRoom, NumberRange}
use Rattle.refusals.specs.declared.Fault.{Fault}
use Rattle.refusals.specs.Limits.{most_bytes}
use Rattle.clearing.specs.Lent.{zeros, padded}
use Rattle.lineentry.specs.declared.Entry.{Entry}
use Rattle.lineentry.specs.declared.Entry.TheVariants.{Covers, Stop, OutOfRange}
use Rattle.lineentry.specs.Entry.{entry_at}
use Rattle.sources.specs.Source.{source_of}
use Rattle.sources.specs.declared.Counts.{Counts}

-- A byte an instruction; or the refusal and its place.
pub data Marks : Type 0 where
  marked : List ℕ → Marks
  denied : Refusal → ℕ → Marks

abbrev pub behind : List ℕ → Marks → Marks
behind before (marked bytes) = marked (before ++ bytes)
behind before (denied why place) = denied why place

-- The byte of the entry at p, at every instruction that it places; `on` goes on behind it. Instructions left over have 0.
abbrev pub from_entry : (ℕ → ℕ → ℕ → Marks) → List ℕ → ℕ → ℕ → Entry → Marks
from_entry on s p left (Covers e) =
    behind (replicate (min e.instructions left) (source_of s p e.line e.missing)) (on e.line e.next (left - e.instructions))
from_entry on s p left Stop = marked (replicate left 0)
from_entry on s p left OutOfRange = denied NumberRange p

-- From the place p on, at the line so far, with `left` instructions to place; as many turns as there are instructions are enough.
abbrev pub marks : ℕ → List ℕ → ℕ → ℕ → ℕ → Marks
marks zero s line p left = marked []
marks (suc turns) s line p left = cond (eqb left 0) (marked []) (from_entry (marks turns s) s p left (entry_at s line p))

-- "Capacity is the length of `sources`." 14, then 17, then the table, as `sill_locate` has them.
unfoldable pub sources : List ℕ → ℕ → ℕ → ℕ → Marks
sources s first count capacity =
    cond (ltb most_bytes (length s)) (denied InputTooLong 0)
    (cond (ltb capacity count) (denied NoRoom capacity)
    (marks count s first 0 count))

-- ---- "Counted: 1; 2; 2, 4 and 8 together; `sure`: 2 and 16 without 32."
abbrev pub has : ℕ → ℕ → Bool
has weight byte = eqb (byte / weight % 2) 1

-- from an entry; with a line; with both columns too; sure
abbrev pub is_placed : ℕ → Bool
is_placed byte = has 1 byte

abbrev pub is_lined : ℕ → Bool
is_lined byte = has 2 byte

abbrev pub is_spanned : ℕ → Bool
is_spanned byte = has 2 byte && (has 4 byte && has 8 byte)

abbrev pub is_sure : ℕ → Bool
is_sure byte = has 2 byte && (has 16 byte && not (has 32 byte))

abbrev pub counts : ℕ → ℕ → ℕ → ℕ → Counts
counts from_entries_here with_line with_columns sure =
    record { from_entries = from_entries_here; with_line = with_line; with_columns = with_columns; sure = sure }

abbrev pub share : ℕ → Bool → ℕ
share n counted = cond counted n 0

-- n instructions of one byte
abbrev pub times : ℕ → ℕ → Counts
times n byte = counts (share n (is_placed byte)) (share n (is_lined byte)) (share n (is_spanned byte)) (share n (is_sure byte))

abbrev pub plus : Counts → Counts → Counts
plus a b = counts (a.from_entries + b.from_entries) (a.with_line + b.with_line) (a.with_columns + b.with_columns) (a.sure + b.sure)

abbrev pub counts_of : List ℕ → Counts
counts_of [] = counts 0 0 0 0
counts_of (byte ∷ bytes) = plus (times 1 byte) (counts_of bytes)

-- ---- the answer, and the lent bytes
abbrev pub answer_of : Marks → Result Counts Fault
answer_of (marked bytes) = Ok (counts_of bytes)
answer_of (denied why place) = refused why place

unfoldable pub bytes_of : ℕ → Marks → List ℕ
bytes_of n (marked bytes) = padded n bytes
bytes_of n (denied why place) = zeros n
