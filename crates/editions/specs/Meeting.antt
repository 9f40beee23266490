-- No export and no promise rests on this page.
-- What the walk over an archive keeps: of one saved file its fault, or whether it is of the edition; of those before, the first that was.
use Rattle.std.specs.Prelude.{ℕ, ◌+◌, ◌*◌, Bool, cond, List, Result, Ok, Err, get_or}
use Rattle.std.specs.Prelude as rust
use Rattle.std.proofs.Math.Option.{Option, none, some}
use Rattle.taggedfields.specs.Fields.{Field, reading, field_in}
use Rattle.refusals.specs.declared.Fault.{Fault}
use Rattle.taggedfields.specs.declared.Span.{Span}
use Rattle.editions.specs.Archive.{Saved, is_field, archive_of, find_edition}
use Rattle.editions.specs.Answers.{span_of}

-- the length that the record at a place says
abbrev pub length_in : List ℕ → ℕ → ℕ
length_in archive at = get_or archive (at + 0) 0 + 256 * (get_or archive (at + 1) 0 + 256 * (get_or archive (at + 2) 0 + 256 * get_or archive (at + 3) 0))

-- a fault, or whether the file is of the edition
abbrev pub met_from : List ℕ → Option Fault → Option Field → Result Bool Fault
met_from edition (some x) f = Err x
met_from edition none f = Ok (is_field edition f)

unfoldable pub met_as : List ℕ → List ℕ → Result Bool Fault
met_as file edition = met_from edition (reading file).fault (field_in file 1)

-- where a file that was found stands
abbrev pub found_as : Option Saved → rust.Option Span
found_as none = rust.None
found_as (some s) = rust.Some (span_of s)

-- one that was found stays; else this one, if it is of the edition
abbrev pub or_this : rust.Option Span → Bool → Span → rust.Option Span
or_this (rust.Some f) is s = rust.Some f
or_this rust.None is s = cond is (rust.Some s) rust.None

-- the whole walk: the archive's fault, or what was found
abbrev pub searched_from : Option Fault → rust.Option Span → Result (rust.Option Span) Fault
searched_from (some x) f = Err x
searched_from none f = Ok f

unfoldable pub searched : List ℕ → List ℕ → Result (rust.Option Span) Fault
searched archive edition = searched_from (archive_of archive).fault (found_as (find_edition edition (archive_of archive).files))
