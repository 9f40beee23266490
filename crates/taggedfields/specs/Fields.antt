-- The fields of a file and its first fault: 02, K8: "Fields have a one-byte tag and two-byte little-endian length; field 1 is the edition, and a
-- tag occurs once." K13's golden files have "the tagged fields of K8" too.
use Rattle.std.specs.Prelude.{ℕ, zero, suc, ◌+◌, ◌*◌, ◌/◌, ◌%◌, Bool, true, false, cond, List, [], ◌∷◌, ◌++◌, ltb, eqb, length, take, drop}
use Rattle.std.proofs.Math.Option.{Option, none, some}
use Rattle.refusals.specs.declared.Fault.{Fault}
use Rattle.refusals.specs.declared.Refusal.{Refusal}
use Rattle.refusals.specs.declared.Refusal.TheVariants.{DataTooShort, RepeatedTag}
use Rattle.refusals.specs.Faults.{fault}

-- A field: its tag, the place of its first byte in the file, and its contents.
pub record Field : Type 0 where
  pub tag : ℕ
  pub place : ℕ
  pub contents : List ℕ

-- behind the tag and the two bytes of the length
abbrev pub start_of : Field → ℕ
start_of f = f.place + 3

-- The fields that are whole, in file order, and the first fault, if there is one.
pub record Reading : Type 0 where
  pub fields : List Field
  pub fault : Option Fault

abbrev pub ended : Reading
ended = record { fields = []; fault = none }

abbrev pub stopped : Refusal → ℕ → Reading
stopped why place = record { fields = []; fault = some (fault why place) }

abbrev pub with_field : Field → Reading → Reading
with_field f r = record { fields = f ∷ r.fields; fault = r.fault }

-- whether a tag is one of these
unfoldable pub among : ℕ → List ℕ → Bool
among t [] = false
among t (u ∷ us) = cond (eqb t u) true (among t us)

-- "a .. length past the end 2 .. at the field"; else the field is whole, and k reads what is behind it
abbrev pub sized : ℕ → ℕ → ℕ → List ℕ → (ℕ → List ℕ → Reading) → Reading
sized tag at size rest k =
    cond (ltb (length rest) size) (stopped DataTooShort at)
    (with_field (record { tag = tag; place = at; contents = take size rest }) (k (at + 3 + size) (drop size rest)))

-- "a header .. past the end 2 .. at the field"; the length is "two-byte little-endian"
abbrev pub headed : ℕ → ℕ → List ℕ → (ℕ → List ℕ → Reading) → Reading
headed tag at [] k = stopped DataTooShort at
headed tag at (low ∷ []) k = stopped DataTooShort at
headed tag at (low ∷ high ∷ rest) k = sized tag at (low + 256 * high) rest k

-- "the first in file order .. repeated tag 22, then a header or length past the end 2, both at the field". The tags of the fields before are
-- known, and the place of the bytes that are left. The first argument only bounds the recursion: each field takes a byte.
unfoldable pub read_from : ℕ → List ℕ → ℕ → List ℕ → Reading
unfolding among
read_from zero tags at bytes = ended
read_from (suc bound) tags at [] = ended
read_from (suc bound) tags at (tag ∷ rest) = cond (among tag tags) (stopped RepeatedTag at) (headed tag at rest (read_from bound (tag ∷ tags)))

-- the fields of a whole file
unfoldable pub reading : List ℕ → Reading
unfolding read_from
reading file = read_from (length file) [] 0 file

-- the field of a tag
unfoldable pub find : ℕ → List Field → Option Field
find t [] = none
find t (f ∷ fs) = cond (eqb t f.tag) (some f) (find t fs)

-- the field of a tag in a file
abbrev pub field_in : List ℕ → ℕ → Option Field
field_in file t = find t (reading file).fields

-- a field as it is written: "a one-byte tag and two-byte little-endian length", then its contents; and fields one behind another
abbrev pub bytes_of : Field → List ℕ
bytes_of f = f.tag ∷ length f.contents % 256 ∷ length f.contents / 256 ∷ f.contents

unfoldable pub spelt : List Field → List ℕ
spelt [] = []
spelt (f ∷ fs) = bytes_of f ++ spelt fs
