-- What a call answers and what it leaves in the store lent for writing, both at once; and 01's numbers for each answer.
-- 01: "The smallest 32-bit integer (the Rust: 1) is 18. Writing without room is 17."
use Rattle.std.specs.Prelude.{ℕ, ◌^◌, Bool, true, false, cond, List, length, ◌==◌, nat_le, Result, Ok, Err}
use Rattle.refusals.specs.Numbers.{accepted}
use Rattle.refusals.specs.Faults.{number_of, refused}
use Rattle.refusals.specs.declared.Refusal.TheVariants.{NoRoom, NumberRange}
use Rattle.refusals.specs.declared.Fault.{Fault}
use Rattle.clearing.specs.Lent.{zeros, padded}
use Rattle.varint.specs.Writing.{little_endian, signed_code}

-- Bytes written into a store that has room for so many: the bytes, then zeros; or, at "the output's capacity", no room and zeros.
unfoldable pub stored : ℕ → List ℕ → Result ℕ Fault × List ℕ
unfolding padded
stored room bytes =
    cond (nat_le (length bytes) room)
    (Ok (length bytes), padded room bytes)
    (refused NoRoom room, zeros room)

-- A signed number by its 32 bits. The smallest is refused at 0, before its room is looked at.
unfoldable pub stored_signed : ℕ → ℕ → Result ℕ Fault × List ℕ
unfolding stored little_endian
stored_signed room bits = cond (bits == 2 ^ 31) (refused NumberRange 0, zeros room) (stored room (little_endian (signed_code bits)))

-- 01's numbers of a writer's answer: "The answer holds number and place, no counts"; accepted, it holds the count alone.
pub record WrittenNumbers : Type 0 where
  pub refusal : ℕ
  pub place : ℕ
  pub written : ℕ

abbrev pub written_numbers : Result ℕ Fault → WrittenNumbers
written_numbers (Ok count) = record { refusal = accepted; place = 0; written = count }
written_numbers (Err f) = record { refusal = number_of f.refusal; place = f.place; written = 0 }

-- a truth, as the numbers of every export have it
abbrev pub truth : Bool → ℕ
truth true = 1
truth false = 0
