-- What is told of a file's fields: its first fault, the place of each tag, and where the field of one tag stands.
use Rattle.std.specs.Prelude.{ℕ, ◌+◌, ◌*◌, List, Result, Ok, Err, length, get_or, take, drop}
use Rattle.std.specs.Prelude as rust
use Rattle.std.proofs.Math.Option.{Option, none, some}
use Rattle.taggedfields.specs.Fields.{Field, start_of, reading, field_in}
use Rattle.refusals.specs.declared.Fault.{Fault}
use Rattle.taggedfields.specs.declared.Span.{Span}

-- the fault, if there is one
abbrev pub told : Option Fault → Result (Unit {0}) Fault
told none = Ok tt
told (some x) = Err x

abbrev pub fault_of : List ℕ → Result (Unit {0}) Fault
fault_of file = told (reading file).fault

-- the place of a field and one more, 0 where there is no field
abbrev pub placed : Option Field → ℕ
placed none = 0
placed (some f) = f.place + 1

-- where a field's contents stand
abbrev pub span_of : Field → Span
span_of f = record { start = start_of f; size = length f.contents }

-- the bytes that a span names in a file
abbrev pub part_of : List ℕ → Span → List ℕ
part_of file s = take s.size (drop s.start file)

abbrev pub spanned : Option Field → rust.Option Span
spanned none = rust.None
spanned (some f) = rust.Some (span_of f)

-- the fault, or where the contents of the tag stand, if it is there
abbrev pub looked_as : Option Fault → Option Field → Result (rust.Option Span) Fault
looked_as (some x) f = Err x
looked_as none f = Ok (spanned f)

unfoldable pub looked : List ℕ → ℕ → Result (rust.Option Span) Fault
looked file t = looked_as (reading file).fault (field_in file t)

-- the length that the header at a place says, the field there, and its bytes as they stand
abbrev pub size_in : List ℕ → ℕ → ℕ
size_in file at = get_or file (at + 1) 0 + 256 * get_or file (at + 2) 0

abbrev pub field_at : List ℕ → ℕ → Field
field_at file at = record { tag = get_or file at 0; place = at; contents = take (size_in file at) (drop (at + 3) file) }

abbrev pub bytes_at : List ℕ → ℕ → List ℕ
bytes_at file at = take (3 + size_in file at) (drop at file)
