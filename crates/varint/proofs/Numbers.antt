-- 01's numbers of each answer, and what the store holds beside a refusal: computed from the definitions under each test.
-- Assumes nothing.
use Rattle.std.proofs.Common.{◌≡◌, ℕ, ◌+◌, ◌^◌, ◌<◌, ◌≤◌, List, ◌++◌, length, refl, le-ltb, le-leb}
use borrow.Author.Tests.{lt-leb}
use Rattle.refusals.specs.Numbers.{accepted, no_room, number_range}
use Rattle.clearing.specs.Lent.{zeros}
use Rattle.varint.specs.Writing.{big_endian}
use Rattle.varintread.specs.Reading.{read_varint}
use Rattle.varint.specs.Answers.{stored, stored_signed, written_numbers}
use Rattle.varintread.specs.Reading.{found_numbers}
use Rattle.varint.proofs.ReadsBack.{big_endian-reads_back}

-- accepted: "on acceptance" no refusal, no place
pub accepted-numbers : (room : ℕ) (bytes : List ℕ) → length bytes ≤ room
    → written_numbers (stored room bytes).0 ≡ record { refusal = accepted; place = 0; written = length bytes }
unfolding stored
accepted-numbers room bytes h = rw (le-leb (length bytes) room h)

-- "Writing without room is 17", at "the output's capacity"
pub no_room-numbers : (room : ℕ) (bytes : List ℕ) → room < length bytes
    → (written_numbers (stored room bytes).0 ≡ record { refusal = no_room; place = room; written = 0 }) × ((stored room bytes).1 ≡ zeros room)
unfolding stored
no_room-numbers room bytes h = (rw (lt-leb (length bytes) room h), rw (lt-leb (length bytes) room h))

-- "The smallest 32-bit integer .. is 18", at 0, whatever the room
pub smallest_numbers : (room : ℕ)
    → (written_numbers (stored_signed room (2 ^ 31)).0 ≡ record { refusal = number_range; place = 0; written = 0 })
    × ((stored_signed room (2 ^ 31)).1 ≡ zeros room)
unfolding stored_signed
smallest_numbers room = (refl, refl)

-- "nothing left .. is "none" with the position unmoved", also beyond the end
pub none_numbers : (bytes : List ℕ) (at : ℕ) → length bytes ≤ at
    → found_numbers at (read_varint bytes at) ≡ record { refusal = accepted; found = 0; value = 0; place = 0; next = at }
unfolding read_varint
none_numbers bytes at h = rw (le-ltb at (length bytes) h)

-- a number that stands whole in the input
pub found_numbers_lem : (before : List ℕ) (n : ℕ) (after : List ℕ) → n < 2 ^ 32
    → found_numbers (length before) (read_varint (before ++ (big_endian n ++ after)) (length before))
    ≡ record { refusal = accepted; found = 1; value = n; place = 0; next = length before + length (big_endian n) }
found_numbers_lem before n after h = rw (big_endian-reads_back before n after h)
