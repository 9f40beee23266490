-- What a node of a sound record is, whatever letter it was read from: the writer and the meaning of stores both go by it.
-- 01, 'Writing it back': "Interning, sharing and integer, string or tuple letter do not count."
use Rattle.std.specs.Prelude.{ℕ, ◌+◌, cond, not, List, [], ◌∷◌, eqb}
use Rattle.grammar.specs.LetterNames.{float_letter, tuple_letter}
use Rattle.grammar.specs.Letters as letter
use Rattle.grammar.specs.Letters.{Form, Sort, Class, class_of}
use Rattle.grammar.specs.Fields.{le32, le64, contents, not_negative, digit_count}
use Rattle.grammar.specs.State.{Node}
use Rattle.grammar.specs.Record.{Tables, node_of}
use Rattle.grammar.specs.Leaf.{magnitude}
use Rattle.writing.specs.Canonical.{Integer, of_bits}

pub data Shape : Type 0 where
  -- none, a truth value, stop, ellipsis: the letter alone
  single : (letter : ℕ) → Shape
  integer : Integer → Shape
  float : (bits : ℕ) → Shape
  complex : (real imaginary : ℕ) → Shape
  bytes : List ℕ → Shape
  text : List ℕ → Shape
  -- tuple, list, set, frozenset by the letter they are written with, and their children
  sequence : (letter : ℕ) → List ℕ → Shape
  slice : List ℕ → Shape
  dict : List ℕ → Shape
  -- five numbers, the first line as stored, and the parts
  code : (numbers : List ℕ) → (line : ℕ) → (parts : List ℕ) → Shape

-- "arguments, positional-only, keyword-only, stack, flags"
abbrev pub numbers_at : List ℕ → ℕ → List ℕ
numbers_at s at = le32 s at ∷ le32 s (at + 4) ∷ le32 s (at + 8) ∷ le32 s (at + 12) ∷ le32 s (at + 16) ∷ []

-- "Long: a signed 32-bit count; 0 is zero, its sign is the number's."
abbrev pub long_at : List ℕ → ℕ → Integer
long_at s at = record { negative = not (not_negative (le32 s at)); magnitude = magnitude s (digit_count (le32 s at)) (at + 4) }

-- `I` is a whole number of 64 bits and `g` a float; both are one field of eight bytes
abbrev pub eight : (letter bits : ℕ) → Shape
eight letter bits = cond (eqb letter float_letter) (float bits) (integer (of_bits 9223372036854775808 bits))

abbrev pub field : (letter size : ℕ) → List ℕ → ℕ → Shape
field letter size s at = cond (eqb size 4) (integer (of_bits 2147483648 (le32 s at))) (eight letter (le64 s at))

abbrev pub formed : List ℕ → Node → List ℕ → Form → Shape
formed s n kids letter.single = single n.letter
formed s n kids (letter.fixed size) = field n.letter size s n.place
formed s n kids letter.double = complex (le64 s n.place) (le64 s (n.place + 8))
formed s n kids letter.long = integer (long_at s n.place)
formed s n kids letter.sequence = sequence n.letter kids
-- "tuples `(`"
formed s n kids letter.few = sequence tuple_letter kids
formed s n kids letter.slice = slice kids
formed s n kids letter.dict = dict kids

abbrev pub sorted : List ℕ → Node → Sort → Shape
sorted s n letter.bytes = bytes (contents s n.place n.size)
sorted s n letter.text = text (contents s n.place n.size)
sorted s n letter.short = text (contents s n.place n.size)

-- A letter that is not kept has no sound record; it has no shape of its own.
abbrev pub classed : List ℕ → Node → List ℕ → Class → Shape
classed s n kids letter.refers = single n.letter
classed s n kids (letter.refuses number) = single n.letter
classed s n kids (letter.keeps form) = formed s n kids form
classed s n kids (letter.contains sort) = sorted s n sort
classed s n kids letter.codes = code (numbers_at s n.place) (le32 s (n.place + n.size)) kids

unfoldable pub shape_of : Tables → (node : ℕ) → List ℕ → Shape
shape_of t n kids = classed t.input (node_of t n) kids (class_of (node_of t n).letter)
