-- A number of one byte: what it reads as, without a look at any other byte. Assumes nothing.
use mathlib.Core.Path.{◌≡◌}
use mathlib.Core.List.{List}
use Prim.Native.Nat.{ℕ, ◌+◌, ◌*◌, ◌/◌, ◌%◌, ◌^◌, ◌<◌}
use native.Mathlib.Omega.{arith}
use borrow.Author.Tests.{lt-ltb, le-leb, ne_eqb}
use lib.ListN.{length, get_or}
use lib.Seq.{drop-cons}
use Rattle.varintread.specs.Reading.{found, read_groups, read_varint, read_varint_with_start}
use Rattle.varintread.specs.declared.Found.{Found}
use Rattle.std.specs.Prelude.{Result, Ok}
use Rattle.refusals.specs.declared.Fault.{Fault}
use Rattle.exceptiontable.specs.Reading.{first_number, later_number}

-- a number that is taken
abbrev pub number : ℕ → ℕ → Result Found Fault
number value next = Ok (record { value = value; next = next })

one_byte : (table : List ℕ) (at : ℕ) → at < length table → get_or table at 0 / 64 % 2 ≡ 0 → read_varint table at ≡ found (get_or table at 0 % 64) (at + 1)
unfolding read_varint read_groups
one_byte table at h k =
    let b = get_or table at 0 in
    let v : 0 * 64 + b % 64 ≡ b % 64 = omega arith in
    let l : b % 64 < 2 ^ 32 = omega arith in
    rw (lt-ltb at (length table) h, drop-cons table at 0 h, ne_eqb (b / 64 % 2) 1 (λ z. omega arith), v, lt-ltb (b % 64) (2 ^ 32) l)

pub later_one_byte : (table : List ℕ) (at : ℕ) → at < length table → get_or table at 0 / 64 % 2 ≡ 0 → number (get_or table at 0 % 64) (at + 1) ≡ later_number table at
unfolding later_number
later_one_byte table at h k = rw (one_byte table at h k)

pub first_one_byte : (table : List ℕ) (at : ℕ) → at < length table → get_or table at 0 / 64 ≡ 2 → number (get_or table at 0 % 64) (at + 1) ≡ first_number table at
unfolding first_number read_varint_with_start
first_one_byte table at h k = rw (le-leb 128 (get_or table at 0) (omega arith), one_byte table at h (omega arith))
