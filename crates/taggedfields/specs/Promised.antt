-- What is promised of files of fields: what is written reads back, and what is read stands in the file as it would be written.
-- `proofs/Promised` has the theorem.
use Rattle.std.specs.Prelude.{◌≡◌, false, List, [], ◌∷◌, ℕ, ◌+◌, ◌<◌, length, get_or, take, drop}
use Rattle.std.proofs.Math.Option.{none, some}
use Rattle.taggedfields.specs.Fields.{Field, among, reading, field_in, bytes_of, spelt}

-- the tags of fields, in order
unfoldable pub tags_of : List Field → List ℕ
tags_of [] = []
tags_of (f ∷ fs) = f.tag ∷ tags_of fs

-- "a tag occurs once": none is one of those seen, or one before it
abbrev pub Once : List ℕ → List ℕ → Type 0
Once seen [] = Unit {0}
Once seen (t ∷ ts) = (among t seen ≡ false) × Once (t ∷ seen) ts

-- the same fields, each at the place where it stands once they are written one behind another from a place on
unfoldable pub laid : ℕ → List Field → List Field
laid at [] = []
laid at (f ∷ fs) = record { tag = f.tag; place = at; contents = f.contents } ∷ laid (at + 3 + length f.contents) fs

-- a file of bytes that has no fault
pub record Sound (file : List ℕ) : Type 0 where
  pub bytes : (i : ℕ) → get_or file i 0 < 256
  pub clean : (reading file).fault ≡ none

pub record Promised : Type 0 where
  -- fields of which no two have one tag read back as they were written
  pub back : (fs : List Field) → Once [] (tags_of fs) → reading (spelt fs) ≡ record { fields = laid 0 fs; fault = none }
  -- no two fields of a file have one tag; and a file without a fault has nothing but its fields: written again they are the file
  pub once : (file : List ℕ) → Once [] (tags_of (reading file).fields)
  pub whole : (file : List ℕ) → Sound file → spelt (reading file).fields ≡ file
  -- a field stands at its place, header and contents
  pub stands : (file : List ℕ) → Sound file → (t : ℕ) (f : Field) → field_in file t ≡ some f → take (3 + length f.contents) (drop f.place file) ≡ bytes_of f
