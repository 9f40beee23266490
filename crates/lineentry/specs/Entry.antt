-- 01, 'Locals, numbers and locations': one entry of a location table, for all sixteen codes.
-- "An entry starts with 0x80 | code x 8 | (length - 1)". What an entry covers, a stop, or 18.
-- CPython, InternalDocs/code_objects.md, 'Source code locations': an entry's first byte has bit 7 set, the code in bits 3 to 6 and the length
-- in code units less one in bits 0 to 2. Codes 0 to 9 are its short form (`short_form`), 10 to 12 the one line form (`one_line`), 13 no column
-- info (`no_columns`), 14 the long form (`long_form`) and 15 no location (`by_code`). A start line is a step from the line before, an end line a
-- step from the start line. There the short form's column is code * 8 plus bits 4 to 6 of the second byte; only an entry's first byte has bit 7
-- set, and where that holds 01's OR of bits 4 to 7 is the same.
use Rattle.std.specs.Prelude.{Bool, Option, Some, None, false, cond, List, ℕ, ◌+◌, ◌-◌, ◌*◌, ◌/◌, ◌%◌, max, ltb, eqb}
use Rattle.std.specs.Int.Bits.{bit_or}
use Rattle.lineentry.specs.declared.Varint.{Varint}
use Rattle.lineentry.specs.declared.Location.{Location}
use Rattle.lineentry.specs.declared.Entry.{Entry}
use Rattle.lineentry.specs.declared.Entry.TheVariants.{Covers, Stop, OutOfRange}
use Rattle.lineentry.specs.Varint.{byte_at, varint_at, signed_at}
use Rattle.lineentry.specs.Line.{origin, as_signed, moved, shown}

abbrev pub location : ℕ → ℕ → ℕ → ℕ → Location
location line column end_line end_column = record { line = line; column = column; end_line = end_line; end_column = end_column }

-- n instructions at one location, the line and the place after the entry, and whether a byte was missing. A missing byte is
-- followed by missing ones only, so the last that was read tells.
abbrev pub covers : ℕ → ℕ → Location → ℕ → Bool → Entry
covers n line at p missing = Covers (record { instructions = n; line = line; location = at; next = p; missing = missing })

-- "columns count from 1; none is 1": a line with no columns
abbrev pub at_line : ℕ → Location
at_line line = location (shown line) 1 (shown line) 1

-- The entry goes on with a number, or with the line after a step; a number of 2^32 or more, a seventh byte or a line outside 32 bits is 18.
abbrev pub with_number : Option Varint → (ℕ → ℕ → Bool → Entry) → Entry
with_number (Some v) go = go v.value v.next v.missing
with_number None go = OutOfRange

abbrev pub with_line : Option ℕ → (ℕ → Entry) → Entry
with_line (Some line) go = go line
with_line None go = OutOfRange

-- "Code 0 to 9: second byte d, column (code x 8) OR (d / 16), end column + (d mod 16)."
abbrev pub short_column : ℕ → ℕ → ℕ
short_column code d = bit_or (code * 8) (d / 16)

unfoldable pub short_form : List ℕ → ℕ → ℕ → ℕ → ℕ → Entry
short_form s line code n p =
    covers n line
    (location (shown line) (short_column code (byte_at s p).value + 1) (shown line) (short_column code (byte_at s p).value + (byte_at s p).value % 16 + 1))
    (byte_at s p).next (byte_at s p).missing

-- "10 to 12: line + (code - 10), two column bytes."
unfoldable pub one_line : List ℕ → ℕ → ℕ → ℕ → ℕ → Entry
one_line s line code n p =
    with_line (moved line (origin + (code - 10))) λ to.
    covers n to
    (location (shown to) ((byte_at s p).value + 1) (shown to) ((byte_at s (byte_at s p).next).value + 1))
    (byte_at s (byte_at s p).next).next (byte_at s (byte_at s p).next).missing

-- "13: signed line step."
unfoldable pub no_columns : List ℕ → ℕ → ℕ → ℕ → Entry
no_columns s line n p =
    with_number (signed_at s p) λ step p₁ missing.
    with_line (moved line step) λ to.
    covers n to (at_line to) p₁ missing

-- "14: signed step, end-line step, columns plus one (0 = none)." "the end-line step is taken as signed"
unfoldable pub long_columns : List ℕ → ℕ → ℕ → ℕ → ℕ → Entry
long_columns s to end n p =
    with_number (varint_at s p) λ column p₁ _.
    with_number (varint_at s p₁) λ end_column p₂ missing.
    covers n to (location (shown to) (max 1 column) (shown end) (max 1 end_column)) p₂ missing

unfoldable pub long_form : List ℕ → ℕ → ℕ → ℕ → Entry
long_form s line n p =
    with_number (signed_at s p) λ step p₁ _.
    with_number (varint_at s p₁) λ end_step p₂ _.
    with_line (moved line step) λ to.
    with_line (moved to (as_signed end_step)) λ end.
    long_columns s to end n p₂

-- By the code. "15: no place": the running line, and no columns.
unfoldable pub by_code : List ℕ → ℕ → ℕ → ℕ → ℕ → Entry
by_code s line code n p =
    cond (ltb code 10) (short_form s line code n p)
    (cond (ltb code 13) (one_line s line code n p)
    (cond (eqb code 13) (no_columns s line n p)
    (cond (eqb code 14) (long_form s line n p)
    (covers n line (at_line line) p false))))

-- The entry whose first byte is b and whose other bytes start at p. "a first byte without 0x80 stops"
unfoldable pub entry_of : List ℕ → ℕ → ℕ → ℕ → Entry
entry_of s line b p = cond (ltb b 128) Stop (by_code s line (b / 8 % 16) (b % 8 + 1) p)

-- The entry at p; where the table has ended the first byte is missing, so 0, which stops.
abbrev pub entry_at : List ℕ → ℕ → ℕ → Entry
entry_at s line p = entry_of s line (byte_at s p).value (byte_at s p).next
