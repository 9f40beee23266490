-- 02, K13: "The old golden is two values back to back, code then expected result, with nothing after. The new one has the tagged fields of K8:
-- edition (tag 1, the one byte 1), code (tag 2), result (tag 3), exactly these in that order." Each form taken apart, with its refusals.
use Rattle.std.specs.Prelude.{ℕ, ◌+◌, Bool, false, cond, ◌&&◌, List, [], ◌∷◌, ltb, eqb, length, get_or, take, drop}
use Rattle.std.proofs.Math.Option.{Option, none, some}
use Rattle.refusals.specs.Numbers.{bad_type, no_such_field, trailing_bytes}
use Rattle.refusals.specs.declared.Fault.{Fault}
use Rattle.refusals.specs.Faults.{number_of}
use Rattle.taggedfields.specs.Fields.{Field, start_of, reading}
use Rattle.grammar.specs.Reading.{Answer, gives, stops}
use Rattle.grammar.specs.LetterNames.{code_letter}
use Rattle.grammar.specs.Letters.{letter_of}
use Rattle.readalone.specs.Alone.{Room, alone}

-- the bytes that a value stands in, and where they start in the file
pub record Part : Type 0 where
  pub start : ℕ
  pub bytes : List ℕ

-- "code then expected result"
pub record Golden : Type 0 where
  pub code : Part
  pub result : Part

-- an answer, then another of what the first gives
abbrev pub next : {A B : Type 0} → Answer A → (A → Answer B) → Answer B
next (gives a) f = f a
next (stops number place) f = stops number place

-- The values. "Refusals, in this order: .. the reader's own; a first value that is no code 7; trailing bytes 25 at their start".

-- a code, by the letter of its header
abbrev pub is_code : List ℕ → Bool
is_code bytes = eqb (letter_of (get_or bytes 0 0)) code_letter

-- nothing behind the value of a part, which takes so many bytes
abbrev pub nothing_behind : Part → ℕ → Answer Golden → Answer Golden
nothing_behind p size rest = cond (ltb size (length p.bytes)) (stops trailing_bytes (p.start + size)) rest

-- of two values that were read, and take so many bytes; a 7 stands at the first value's header
unfoldable pub judged : Golden → (code result : ℕ) → Answer Golden
judged g code result =
    cond (is_code g.code.bytes) (nothing_behind g.code code (nothing_behind g.result result (gives g))) (stops bad_type g.code.start)

-- "Both are read": the result, once the code was read and takes so many bytes
unfoldable pub result_read : Room → Golden → (code : ℕ) → Answer Golden
result_read R g code = next (alone R g.result.start g.result.bytes) (judged g code)

-- The old form: the result stands where the code ends.
abbrev pub cut_at : List ℕ → ℕ → Golden
cut_at file size = record { code = record { start = 0; bytes = take size file }; result = record { start = size; bytes = drop size file } }

unfoldable pub old_parts : Room → List ℕ → Answer Golden
old_parts R file = next (alone R 0 file) (λ size. result_read R (cut_at file size) size)

-- The new form. "tag 1, the one byte 1"
abbrev pub only_one : List ℕ → Bool
only_one [] = false
only_one (b ∷ []) = eqb b 1
only_one (b ∷ c ∷ bytes) = false

abbrev pub is_edition : Field → Bool
is_edition f = eqb f.tag 1 && only_one f.contents

abbrev pub part_of : Field → Part
part_of f = record { start = start_of f; bytes = f.contents }

-- "exactly these in that order"
abbrev pub golden_fields : List Field → Option Golden
golden_fields [] = none
golden_fields (edition ∷ []) = none
golden_fields (edition ∷ code ∷ []) = none
golden_fields (edition ∷ code ∷ result ∷ []) =
    cond (is_edition edition && (eqb code.tag 2 && eqb result.tag 3)) (some (record { code = part_of code; result = part_of result })) none
golden_fields (edition ∷ code ∷ result ∷ other ∷ fields) = none

-- "other fields or edition 23", at 0
abbrev pub or_other : Option Golden → Answer Golden
or_other none = stops no_such_field 0
or_other (some g) = gives g

-- "K8's own" come first
abbrev pub or_fault : Option Fault → Answer Golden → Answer Golden
or_fault (some x) rest = stops (number_of x.refusal) x.place
or_fault none rest = rest

unfoldable pub in_fields : List ℕ → Answer Golden
in_fields file = or_fault (reading file).fault (or_other (golden_fields (reading file).fields))

unfoldable pub both_read : Room → Golden → Answer Golden
both_read R g = next (alone R g.code.start g.code.bytes) (result_read R g)

unfoldable pub new_parts : Room → List ℕ → Answer Golden
new_parts R file = next (in_fields file) (both_read R)
