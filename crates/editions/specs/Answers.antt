-- 02, K8: "rolling back to an edition gives exactly that file's fields"; "no such edition, or saving a file whose edition is missing or already
-- saved, 23; no room 17". An archive above 4,294,967,295 bytes is 14 at 0, first.
use Rattle.std.specs.Prelude.{ℕ, Result, Ok, Err, min, cond, List, ◌++◌, ltb, length}
use Rattle.std.proofs.Math.Option.{Option, none, some}
use Rattle.refusals.specs.declared.Fault.{Fault}
use Rattle.refusals.specs.declared.Refusal.TheVariants.{InputTooLong, NoRoom, NoSuchField}
use Rattle.refusals.specs.Faults.{fault, refused}
use Rattle.refusals.specs.Limits.{nothing}
use Rattle.clearing.specs.Lent.{zeros, padded}
use Rattle.taggedfields.specs.Fields.{Field, reading, field_in}
use Rattle.editions.specs.Archive.{Saved, archive_of, find_edition, record_of}
use Rattle.taggedfields.specs.declared.Span.{Span}

-- ---- the file of an edition
abbrev pub span_of : Saved → Span
span_of s = record { start = s.start; size = length s.file }

abbrev pub edition_from : Option Fault → Option Saved → Result Span Fault
edition_from (some x) s = Err x
edition_from none none = refused NoSuchField 0
edition_from none (some s) = Ok (span_of s)

unfoldable pub edition_of : List ℕ → List ℕ → Result Span Fault
edition_of archive edition =
    cond (ltb nothing (length archive)) (refused InputTooLong 0) (edition_from (archive_of archive).fault (find_edition edition (archive_of archive).files))

-- ---- saving a file
abbrev pub refused_as : Fault → ℕ → Result ℕ Fault × List ℕ
refused_as x len = (Err x, zeros len)

abbrev pub in_room : List ℕ → ℕ → Result ℕ Fault × List ℕ
in_room bytes len =
    cond (ltb (min len nothing) (length bytes)) (refused_as (fault NoRoom (min len nothing)) len) (Ok (length bytes), padded len bytes)

-- a file whose edition is not in the archive
abbrev pub if_new : Option Saved → List ℕ → ℕ → Result ℕ Fault × List ℕ
if_new (some s) bytes len = refused_as (fault NoSuchField 0) len
if_new none bytes len = in_room bytes len

-- of the archive's fault, the file's, and its edition
abbrev pub saved_from : List Saved → Option Fault → Option Fault → Option Field → List ℕ → ℕ → Result ℕ Fault × List ℕ
saved_from files (some x) c e bytes len = refused_as x len
saved_from files none (some x) e bytes len = refused_as x len
saved_from files none none none bytes len = refused_as (fault NoSuchField 0) len
saved_from files none none (some f) bytes len = if_new (find_edition f.contents files) bytes len

unfoldable pub saved_of : List ℕ → List ℕ → ℕ → Result ℕ Fault × List ℕ
saved_of archive file len =
    cond (ltb nothing (length archive)) (refused_as (fault InputTooLong 0) len)
    (saved_from (archive_of archive).files (archive_of archive).fault (reading file).fault (field_in file 1) (archive ++ record_of file) len)
