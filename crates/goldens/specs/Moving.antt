-- 02, K13: "Move old to new and back; the old bytes return exactly, since references never cross the two values. Both are read before anything
-- is written". What a move writes: the other form of the same two values, or the first refusal in 02's order.
use Rattle.std.specs.Prelude.{ℕ, min, cond, List, [], ◌∷◌, ◌++◌, ltb, length}
use Rattle.refusals.specs.Numbers.{no_room, value_too_long}
use Rattle.refusals.specs.Limits.{nothing}
use Rattle.clearing.specs.Lent.{zeros, padded}
use Rattle.taggedfields.specs.Fields.{Field, spelt}
use Rattle.grammar.specs.Reading.{Answer, gives, stops}
use Rattle.readalone.specs.Alone.{Room}
use Rattle.goldenparts.specs.Forms.{Part, Golden, next, old_parts, new_parts}

-- a field to be written; where it will stand is said by those in front of it
abbrev pub written : ℕ → List ℕ → Field
written tag contents = record { tag = tag; place = 0; contents = contents }

-- "edition (tag 1, the one byte 1), code (tag 2), result (tag 3), exactly these in that order"
unfoldable pub new_form : Golden → List ℕ
new_form g = spelt (written 1 (1 ∷ []) ∷ written 2 g.code.bytes ∷ written 3 g.result.bytes ∷ [])

-- "two values back to back, code then expected result, with nothing after"
abbrev pub old_form : Golden → List ℕ
old_form g = g.code.bytes ++ g.result.bytes

-- the most that a length of two bytes can say
abbrev pub most_contents : ℕ
most_contents = 65535

-- "a value above 65,535 bytes 26 at its start"
abbrev pub in_field : Part → Answer (List ℕ) → Answer (List ℕ)
in_field p rest = cond (ltb most_contents (length p.bytes)) (stops value_too_long p.start) rest

unfoldable pub fielded : Golden → Answer (List ℕ)
fielded g = in_field g.code (in_field g.result (gives (new_form g)))

-- old to new, and new to old
unfoldable pub to_fields : Room → List ℕ → Answer (List ℕ)
to_fields R plain = next (old_parts R plain) fielded

unfoldable pub to_plain : Room → List ℕ → Answer (List ℕ)
to_plain R fields = next (new_parts R fields) (λ g. gives (old_form g))

-- "no room 17", at the output's length, which counts as at most 4,294,967,295. Answer and output are one value.
abbrev pub refused_as : ℕ → ℕ → ℕ → Answer ℕ × List ℕ
refused_as number place len = (stops number place, zeros len)

abbrev pub in_room : List ℕ → ℕ → Answer ℕ × List ℕ
in_room bytes len =
    cond (ltb (min len nothing) (length bytes)) (refused_as no_room (min len nothing) len) (gives (length bytes), padded len bytes)

unfoldable pub moved_as : Answer (List ℕ) → ℕ → Answer ℕ × List ℕ
moved_as (gives bytes) len = in_room bytes len
moved_as (stops number place) len = refused_as number place len
