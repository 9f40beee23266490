-- What a node of any stores means: sharing is unfolded, and there is no value where a record or a chain is bad, or where the allowance ends
-- first. The record test is grammar's `look` and what a record is the writer's `shape_of`, so that nothing is tested twice.
-- 01, 'Writing it back': "The same value means".
use Rattle.std.specs.Prelude.{ℕ, zero, suc, List, [], ◌∷◌, take, drop}
use Rattle.std.proofs.Math.Option.{Option, none, some}
use Rattle.grammar.specs.Steps.{line_part}
use Rattle.grammar.specs.Answer.{Counts, Outcome}
use Rattle.grammar.specs.Record.{Tables, tables_of, Looked, holds, faulty, look}
use Rattle.writing.specs.Canonical.{shown_line}
use Rattle.writing.specs.Shape as shape
use Rattle.writing.specs.Shape.{Shape, shape_of}
use Rattle.meaning.specs.Value.{Value, Values, nil, more, single, integer, float, complex, bytes, text, sequence, slice, dict, code}

abbrev pub put : Option Value → Option Values → Option Values
put none rest = none
put (some v) none = none
put (some v) (some vs) = some (more v vs)

unfoldable pub all_of : (ℕ → Option Value) → List ℕ → Option Values
all_of f [] = some nil
all_of f (n ∷ ns) = put (f n) (all_of f ns)

abbrev pub holding : (Values → Value) → Option Values → Option Value
holding make none = none
holding make (some vs) = some (make vs)

abbrev pub code_of : (numbers : List ℕ) → (line : ℕ) → (parts tables : Option Values) → Option Value
code_of numbers line none tables = none
code_of numbers line (some parts) none = none
code_of numbers line (some parts) (some tables) = some (code numbers parts line tables)

-- f for children, g for the parts of a code
abbrev pub shaped : (f g : ℕ → Option Value) → Shape → Option Value
shaped f g (shape.single letter) = some (single letter)
shaped f g (shape.integer z) = some (integer z)
shaped f g (shape.float bits) = some (float bits)
shaped f g (shape.complex real imaginary) = some (complex real imaginary)
shaped f g (shape.bytes contents) = some (bytes contents)
shaped f g (shape.text contents) = some (text contents)
shaped f g (shape.sequence letter kids) = holding (sequence letter) (all_of f kids)
shaped f g (shape.slice kids) = holding slice (all_of f kids)
shaped f g (shape.dict kids) = holding dict (all_of f kids)
-- "code parts alike with first line 0 or less as 0"
shaped f g (shape.code numbers line kids) = code_of numbers (shown_line line) (all_of g (take line_part kids)) (all_of g (drop line_part kids))

abbrev pub looked_as : (f g : ℕ → Option Value) → Tables → ℕ → Looked → Option Value
looked_as f g t n (holds kids) = shaped f g (shape_of t n kids)
looked_as f g t n (faulty place) = none

-- where no level is left
abbrev pub nowhere : ℕ → Option Value
nowhere n = none

-- "Children get the allowance less one", a code's parts less two.
unfoldable pub value_of : (allowance : ℕ) → Tables → (node : ℕ) → Option Value
value_of zero t n = none
value_of (suc zero) t n = looked_as nowhere nowhere t n (look t n)
value_of (suc (suc a)) t n = looked_as (value_of (suc a) t) (value_of a t) t n (look t n)

-- The stores as a reading of the input left them, with the counts that it answered.
abbrev pub tables_after : (input : List ℕ) → Outcome → Counts → Tables
tables_after input o c = tables_of input o.nodes o.entries c.nodes c.entries
