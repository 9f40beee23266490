-- What a writer left in its store reads back from the store's start, wherever there was room: the bytes, then zeros, are one case of
-- bytes with anything after them. Assumes nothing.
use Rattle.std.proofs.Common.{◌≡◌, ℕ, ◌-◌, ◌^◌, ◌<◌, ◌≤◌, false, List, [], ◌++◌, length, zero-add, ne_eqb, le-leb}
use Rattle.clearing.specs.Lent.{zeros, padded}
use Rattle.lineentry.specs.Line.{as_signed}
use Rattle.lineentry.specs.Varint.{read_as, varint_at, signed_at}
use Rattle.varint.specs.Writing.{little_endian, big_endian, big_endian_with_start, signed_code}
use Rattle.varintread.specs.Reading.{found, read_varint, read_varint_with_start}
use Rattle.varint.specs.Answers.{stored, stored_signed}
use Rattle.varint.proofs.ReadsBack.{little_endian-reads_back, big_endian-reads_back, with_start_reads_back, signed-reads_back}

-- the bytes, then zeros
content : (room : ℕ) (bytes : List ℕ) → length bytes ≤ room → (stored room bytes).1 ≡ bytes ++ zeros (room - length bytes)
unfolding stored padded
content room bytes h = rw (le-leb (length bytes) room h)

pub little_endian-kept : (room n : ℕ) → n < 2 ^ 32 → length (little_endian n) ≤ room
    → varint_at (stored room (little_endian n)).1 0 ≡ read_as n (length (little_endian n)) false
little_endian-kept room n f h =
    rw (content room (little_endian n) h)
    (rw zero-add at (little_endian-reads_back [] n (zeros (room - length (little_endian n))) f))

pub big_endian-kept : (room n : ℕ) → n < 2 ^ 32 → length (big_endian n) ≤ room
    → read_varint (stored room (big_endian n)).1 0 ≡ found n (length (big_endian n))
big_endian-kept room n f h =
    rw (content room (big_endian n) h)
    (rw zero-add at (big_endian-reads_back [] n (zeros (room - length (big_endian n))) f))

pub with_start_kept : (room n : ℕ) → n < 2 ^ 32 → length (big_endian_with_start n) ≤ room
    → read_varint_with_start (stored room (big_endian_with_start n)).1 0 ≡ found n (length (big_endian_with_start n))
with_start_kept room n f h =
    rw (content room (big_endian_with_start n) h)
    (rw zero-add at (with_start_reads_back [] n (zeros (room - length (big_endian_with_start n))) f))

pub signed-kept : (room bits : ℕ) → bits < 2 ^ 32 → (bits ≡ 2 ^ 31 → ⊥) → length (little_endian (signed_code bits)) ≤ room
    → signed_at (stored_signed room bits).1 0 ≡ read_as (as_signed bits) (length (little_endian (signed_code bits))) false
unfolding stored_signed
signed-kept room bits f other h =
    let bytes = little_endian (signed_code bits) in
    rw (ne_eqb bits (2 ^ 31) other, content room bytes h)
    (rw zero-add at (signed-reads_back [] bits (zeros (room - length bytes)) f other))
