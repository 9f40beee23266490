-- 02, K8: "Each saved file is kept whole". An archive is saved files one behind another, each behind its length in four bytes, little-endian.
-- Its first fault, record by record: a length or a file past the end is 2 at the record; a fault of a saved file has its place in the archive.
use Rattle.std.specs.Prelude.{ℕ, zero, suc, ◌+◌, ◌*◌, ◌/◌, ◌%◌, Bool, true, false, cond, List, [], ◌∷◌, ◌++◌, ltb, eqb, length, get_or, take, drop}
use Rattle.std.proofs.Math.Option.{Option, none, some}
use Rattle.refusals.specs.declared.Refusal.{Refusal}
use Rattle.refusals.specs.declared.Fault.{Fault}
use Rattle.refusals.specs.declared.Refusal.TheVariants.{DataTooShort}
use Rattle.refusals.specs.Faults.{fault}
use Rattle.taggedfields.specs.Fields.{Field, reading, field_in}

-- a saved file: where its bytes start in the archive, and they themselves
pub record Saved : Type 0 where
  pub start : ℕ
  pub file : List ℕ

-- the files that are whole and have no fault, in order, and the first fault
pub record Archive : Type 0 where
  pub files : List Saved
  pub fault : Option Fault

abbrev pub ended : Archive
ended = record { files = []; fault = none }

abbrev pub stopped : Refusal → ℕ → Archive
stopped why place = record { files = []; fault = some (fault why place) }

abbrev pub with_file : Saved → Archive → Archive
with_file s a = record { files = s ∷ a.files; fault = a.fault }

-- a file with its fault, if it has one, and what is behind it
abbrev pub if_sound : Saved → Option Fault → Archive → Archive
if_sound s none behind = with_file s behind
if_sound s (some x) behind = stopped x.refusal (s.start + x.place)

-- a length in four bytes, little-endian
abbrev pub le32 : List ℕ → ℕ
le32 bytes = get_or bytes 0 0 + 256 * (get_or bytes 1 0 + 256 * (get_or bytes 2 0 + 256 * get_or bytes 3 0))

-- a file of so many bytes, behind its length
abbrev pub sized : ℕ → ℕ → List ℕ → (ℕ → List ℕ → Archive) → Archive
sized at size rest k =
    cond (ltb (length rest) size) (stopped DataTooShort at)
    (if_sound (record { start = at + 4; file = take size rest }) (reading (take size rest)).fault (k (at + 4 + size) (drop size rest)))

-- the bytes that are left, from a place on. The first argument only bounds the recursion: each record takes a byte.
unfoldable pub archive_from : ℕ → ℕ → List ℕ → Archive
archive_from zero at bytes = ended
archive_from (suc bound) at bytes =
    cond (eqb (length bytes) 0) ended
    (cond (ltb (length bytes) 4) (stopped DataTooShort at) (sized at (le32 bytes) (drop 4 bytes) (archive_from bound)))

unfoldable pub archive_of : List ℕ → Archive
unfolding archive_from
archive_of bytes = archive_from (length bytes) 0 bytes

-- whether two files' bytes are the same
unfoldable pub same : List ℕ → List ℕ → Bool
same [] [] = true
same [] (y ∷ ys) = false
same (x ∷ xs) [] = false
same (x ∷ xs) (y ∷ ys) = cond (eqb x y) (same xs ys) false

-- "field 1 is the edition": whether a file has this one
abbrev pub is_field : List ℕ → Option Field → Bool
is_field edition none = false
is_field edition (some f) = same f.contents edition

abbrev pub is_edition : List ℕ → List ℕ → Bool
is_edition edition file = is_field edition (field_in file 1)

-- the first saved file of an edition
unfoldable pub find_edition : List ℕ → List Saved → Option Saved
find_edition edition [] = none
find_edition edition (s ∷ ss) = cond (is_edition edition s.file) (some s) (find_edition edition ss)

-- a number of 32 bits in four bytes, and a file as it is saved: its length, and its bytes
abbrev pub bytes32 : ℕ → List ℕ
bytes32 n = n % 256 ∷ n / 256 % 256 ∷ n / 256 / 256 % 256 ∷ n / 256 / 256 / 256 % 256 ∷ []

abbrev pub record_of : List ℕ → List ℕ
record_of file = bytes32 (length file) ++ file
