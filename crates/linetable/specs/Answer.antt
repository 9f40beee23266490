-- 01, 'Locals, numbers and locations': what is answered for a table, and what each lent store then holds.
-- "Each instruction fills one record of line, column, end line and end column".
use Rattle.std.specs.Prelude.{Result, Ok, Err, Bool, ℤ, cond, List, [], ◌∷◌, ◌++◌, ℕ, zero, suc, ◌+◌, ◌-◌, ◌*◌, ◌/◌, min, length, replicate, get_or, ltb}
use Rattle.std.specs.Int.{w32}
use Rattle.std.proofs.Common.{of_z}
use Rattle.refusals.specs.Numbers.{input_too_long, no_room}
use Rattle.refusals.specs.Limits.{most_bytes}
use Rattle.clearing.specs.Lent.{zeros, padded}
use Rattle.lineentry.specs.declared.Location.{Location}
use Rattle.lineentry.specs.Line.{as_signed}
use Rattle.lineentry.specs.Entry.{location, at_line}
use Rattle.refusals.specs.Faults.{number_of}
use Rattle.refusals.specs.declared.Fault.{Fault}
use Rattle.linetable.specs.declared.Located.{Located}
use Rattle.linetable.specs.Walk.{Reading, done, refused, walk}

-- the first line, kept plus 2^31 as every line is
abbrev pub first_line_of : ℤ → ℕ
first_line_of z = as_signed (of_z w32 z)

-- The whole table, for `count` instructions and room for `capacity` records. "InputTooLong, tested before all", at 0;
-- "fewer records than instructions is 17, before the table is read", its place "the output's capacity".
unfoldable pub located : List ℕ → ℕ → ℕ → ℕ → Reading
located s first count capacity =
    cond (ltb most_bytes (length s)) (refused input_too_long 0)
    (cond (ltb capacity count) (refused no_room capacity)
    (walk count s (at_line first) first 0 count))

-- where a store of numbers, four an instruction, and a store of locations are lent, the smaller is the capacity
abbrev pub located_both : (table : List ℕ) → (first : ℤ) → (count : ℕ) → (flat : List ℕ) → (out : List Location) → Reading
located_both s first count flat out = located s (first_line_of first) count (min (length flat / 4) (length out))

-- so many instructions came from entries, and whether the table was whole
abbrev pub tells : ℕ → Bool → Result Located (ℕ × ℕ)
tells k whole = Ok (record { from_entries = k; whole = whole })

-- what is answered; a refusal by its number and place
abbrev pub answer : Reading → Result Located (ℕ × ℕ)
answer (done at k whole) = tells k whole
answer (refused number place) = Err (number, place)

-- what a function answers, in these numbers
abbrev pub numbered : Result Located Fault → Result Located (ℕ × ℕ)
numbered (Ok told) = Ok told
numbered (Err fault) = Err (number_of fault.refusal, fault.place)

-- one record after another
abbrev pub numbers : List Location → List ℕ
numbers [] = []
numbers (l ∷ ls) = l.line ∷ l.column ∷ l.end_line ∷ l.end_column ∷ numbers ls

-- A store of n numbers: the records, then zeros; after a refusal all zero.
unfoldable pub records_of : ℕ → Reading → List ℕ
records_of n (done at k whole) = padded n (numbers at)
records_of n (refused number place) = zeros n

abbrev pub blank : Location
blank = location 0 0 0 0

-- A store of n locations likewise.
unfoldable pub locations_of : ℕ → Reading → List Location
locations_of n (done at k whole) = at ++ replicate (n - length at) blank
locations_of n (refused number place) = replicate n blank

-- The four numbers of record i as a location; past the last whole record zeros.
unfoldable pub location_at : List ℕ → ℕ → Location
location_at xs i =
    cond (ltb (4 * i + 3) (length xs)) (location (get_or xs (4 * i) 0) (get_or xs (4 * i + 1) 0) (get_or xs (4 * i + 2) 0) (get_or xs (4 * i + 3) 0)) blank

-- n records from record i on, as locations
abbrev pub locations_from : List ℕ → ℕ → ℕ → List Location
locations_from xs i zero = []
locations_from xs i (suc n) = location_at xs i ∷ locations_from xs (suc i) n
