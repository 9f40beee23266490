-- What 02's K8 promises of saved files: "Each saved file is kept whole; rolling back to an edition gives exactly that file's fields."
-- `proofs/Promised` has the theorem.
use Rattle.std.specs.Prelude.{◌≡◌, Result, Ok, Err, List, [], ◌++◌, ℕ, ◌+◌, length, take, drop}
use Rattle.std.proofs.Math.Option.{Option, none, some}
use Rattle.refusals.specs.declared.Fault.{Fault}
use Rattle.refusals.specs.declared.Refusal.TheVariants.{NoSuchField}
use Rattle.refusals.specs.Faults.{fault, refused}
use Rattle.taggedfields.specs.Fields.{Field, reading, field_in}
use Rattle.taggedfields.specs.declared.Span.{Span}
use Rattle.editions.specs.Archive.{record_of}
use Rattle.editions.specs.Answers.{edition_of, refused_as, saved_of}

-- the bytes where an answer says that an edition's file stands
abbrev pub file_at : List ℕ → Result Span Fault → List ℕ
file_at archive (Ok e) = take e.size (drop e.start archive)
file_at archive (Err x) = []

-- a file's edition is these bytes
abbrev pub IsOf : List ℕ → Option Field → Type 0
IsOf edition none = ⊥
IsOf edition (some f) = f.contents ≡ edition

-- the archive that a save writes: what was there, and the file behind it
abbrev pub grown : List ℕ → List ℕ → List ℕ
grown archive file = archive ++ record_of file

-- What is so once a file of an edition was saved into an archive.
pub record Saves (archive file edition : List ℕ) : Type 0 where
  -- "kept whole": the new edition gives the file, byte for byte
  pub new : edition_of (grown archive file) edition ≡ Ok (record { start = length archive + 4; size = length file })
  pub whole : file_at (grown archive file) (edition_of (grown archive file) edition) ≡ file
  -- each edition saved before gives what it gave
  pub same : (other : List ℕ) (e : Span) → edition_of archive other ≡ Ok e → edition_of (grown archive file) other ≡ edition_of archive other
  pub kept : (other : List ℕ) (e : Span) → edition_of archive other ≡ Ok e
      → file_at (grown archive file) (edition_of (grown archive file) other) ≡ file_at archive (edition_of archive other)
  -- and no other is there
  pub none_else : (other : List ℕ) → edition_of archive other ≡ refused NoSuchField 0 → (edition ≡ other → ⊥) → edition_of (grown archive file) other ≡ refused NoSuchField 0
  -- "already saved": the same edition is not saved again, whatever the file
  pub once : (again : List ℕ) → (reading again).fault ≡ none → IsOf edition (field_in again 1) → (room : ℕ) → saved_of (grown archive file) again room ≡ refused_as (fault NoSuchField 0) room

pub record Promised : Type 0 where
  -- a save that is accepted has written the archive and the file behind it, of an edition that the file has
  pub written : (archive file : List ℕ) (room n : ℕ) → (saved_of archive file room).0 ≡ Ok n
      → (n ≡ length (grown archive file)) × (take (length (grown archive file)) (saved_of archive file room).1 ≡ grown archive file)
  pub saves : (archive file : List ℕ) (room n : ℕ) → (saved_of archive file room).0 ≡ Ok n → (edition : List ℕ) × IsOf edition (field_in file 1) × Saves archive file edition
  -- "rolling back to an edition gives exactly that file's fields": what is given is a file without a fault, of that edition
  pub rolled : (archive edition : List ℕ) (e : Span) → edition_of archive edition ≡ Ok e
      → ((reading (file_at archive (edition_of archive edition))).fault ≡ none) × IsOf edition (field_in (file_at archive (edition_of archive edition)) 1)
