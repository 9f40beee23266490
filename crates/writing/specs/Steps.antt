-- The writing of a node, step by step, for any stores. 01, 'Writing it back'.
use Rattle.std.specs.Prelude.{ℕ, zero, suc, ◌+◌, ◌-◌, Bool, cond, ◌&&◌, List, [], ◌∷◌, ◌++◌, length, get_or, take, drop, ltb, eqb}
use Rattle.refusals.specs.Numbers.{too_deep, bad_table}
use Rattle.grammar.specs.LetterNames.{float_letter, complex_letter, bytes_letter, unicode_letter, tuple_letter, slice_letter, dict_letter, code_letter, null_letter}
use Rattle.grammar.specs.Steps as rule
use Rattle.grammar.specs.Steps.{Rule, rules, locals_part, kinds_part, line_part}
use Rattle.grammar.specs.Record.{Tables, Looked, holds, faulty, look, node_of, nodes_in}
use Rattle.writing.specs.Writing.{Writing, ended, refused, emit, then, each}
use Rattle.writing.specs.Canonical.{bytes32, bytes64, words, integer_bytes, sized, code_string, shown_line}
use Rattle.writing.specs.Shape as shape
use Rattle.writing.specs.Shape.{Shape, shape_of}
use Rattle.writing.specs.Names.{contents_of, in_groups}

-- "nesting (10, charged as in reading)": TooDeep, of the writer at the "node number"
abbrev pub levelled : (allowance node : ℕ) → Writing → Writing
levelled zero n w = refused too_deep n
levelled (suc a) n w = w

-- The parts of a code.

-- "Code strings are `z` if ASCII and under 256 bytes, else `u`": names, local names, file, name and qualified name
abbrev pub string_part : Tables → (allowance node : ℕ) → Writing
string_part t a v = levelled a v (emit (code_string (contents_of t v)) ended)

-- a tuple of code strings, each with the allowance less one
abbrev pub names_part : Tables → (allowance node : ℕ) → (names : List ℕ) → Writing
names_part t a v names = levelled a v (emit (tuple_letter ∷ bytes32 (length names)) (each (string_part t (a - 1)) names))

-- the children of a node whose chain is sound
abbrev pub some_of : Tables → ℕ → Looked → List ℕ
some_of t v (holds kids) = kids
some_of t v (faulty place) = []

abbrev pub kids_of : Tables → ℕ → List ℕ
kids_of t v = some_of t v (look t v)

-- how each part is written: as any value is, as names, as the local names in their groups, or as a code string
pub data Manner : Type 0 where
  as_value as_names as_locals as_string : Manner

-- It follows from the rule that the part is held to when it is read.
abbrev pub manner_of : Rule → Manner
manner_of rule.whatever = as_value
manner_of rule.as_bytes = as_value
manner_of rule.as_tuple = as_value
manner_of rule.as_names = as_names
manner_of rule.as_string = as_string

-- the parts from the ith on
abbrev pub manners_from : (i : ℕ) → List Rule → List Manner
manners_from i [] = []
manners_from i (r ∷ rs) = cond (eqb i locals_part) as_locals (manner_of r) ∷ manners_from (i + 1) rs

unfoldable pub manners : List Manner
unfolding rules
manners = manners_from 0 rules

-- f writes a value with the parts' allowance a; the kind bytes stand in the part after the local names
abbrev pub part : Tables → (allowance : ℕ) → (f : ℕ → Writing) → (kinds : List ℕ) → Manner → ℕ → Writing
part t a f kinds as_value v = f v
part t a f kinds as_names v = names_part t a v (kids_of t v)
part t a f kinds as_locals v = names_part t a v (in_groups t kinds (kids_of t v))
part t a f kinds as_string v = string_part t a v

unfoldable pub parts_as : Tables → (allowance : ℕ) → (f : ℕ → Writing) → (kinds : List ℕ) → List Manner → List ℕ → Writing
parts_as t a f kinds [] vs = ended
parts_as t a f kinds (m ∷ ms) [] = ended
parts_as t a f kinds (m ∷ ms) (v ∷ vs) = then (part t a f kinds m v) (parts_as t a f kinds ms vs)

-- "then bytes, constants tuple, names, local names, kinds bytes, file, name, qualified name, the 32-bit first line, line table, exception
-- table": the first line comes where it stands, "a first line of 0 or less as 0".
unfoldable pub parted : Tables → (allowance : ℕ) → (f : ℕ → Writing) → (line : ℕ) → List ℕ → Writing
unfolding manners parts_as in_groups
parted t a f line vs =
    let kinds = contents_of t (get_or vs kinds_part 0) in
    then (parts_as t a f kinds (take line_part manners) (take line_part vs))
    (emit (bytes32 (shown_line line)) (parts_as t a f kinds (drop line_part manners) (drop line_part vs)))

-- A node: its own bytes, then its children, each written by f; the parts of a code are written by g.
abbrev pub shaped : (f : ℕ → Writing) → (g : ℕ → List ℕ → Writing) → Shape → Writing
shaped f g (shape.single letter) = emit (letter ∷ []) ended
shaped f g (shape.integer z) = emit (integer_bytes z) ended
shaped f g (shape.float bits) = emit (float_letter ∷ bytes64 bits) ended
shaped f g (shape.complex real imaginary) = emit (complex_letter ∷ bytes64 real ++ bytes64 imaginary) ended
shaped f g (shape.bytes contents) = emit (sized bytes_letter contents) ended
shaped f g (shape.text contents) = emit (sized unicode_letter contents) ended
shaped f g (shape.sequence letter kids) = emit (letter ∷ bytes32 (length kids)) (each f kids)
shaped f g (shape.slice kids) = emit (slice_letter ∷ []) (each f kids)
shaped f g (shape.dict kids) = emit (dict_letter ∷ []) (then (each f kids) (emit (null_letter ∷ []) ended))
shaped f g (shape.code numbers line parts) = emit (code_letter ∷ words numbers) (g line parts)

abbrev pub looked : (f : ℕ → Writing) → (g : ℕ → List ℕ → Writing) → Tables → ℕ → Looked → Writing
looked f g t n (holds kids) = shaped f g (shape_of t n kids)
looked f g t n (faulty place) = refused bad_table place

-- "A code tests both its levels .. at itself": with one level left it is refused before its record is tested.
abbrev pub is_code : Tables → ℕ → Bool
is_code t n = ltb n (nodes_in t.nodes t.used_nodes) && eqb (node_of t n).letter code_letter

abbrev pub no_parts : (node line : ℕ) → List ℕ → Writing
no_parts n line parts = refused too_deep n

-- "Children get the allowance less one", a code's parts less two.
unfoldable pub writing : (allowance : ℕ) → Tables → (node : ℕ) → Writing
unfolding parted
writing zero t n = refused too_deep n
writing (suc zero) t n = cond (is_code t n) (refused too_deep n) (looked (writing zero t) (no_parts n) t n (look t n))
writing (suc (suc a)) t n = looked (writing (suc a) t) (parted t a (writing a t)) t n (look t n)
