-- No export and no promise rests on this page.
-- The row of a container and the parts of a code, in the order in which they are written. 01, 'Writing it back': "a first line of 0 or less
-- as 0".
use Rattle.std.specs.Prelude.{◌≡◌, ℕ, ◌+◌, ◌≤◌, ◌<◌, cond, List, [], ◌∷◌, length, get_or, eqb}
use Rattle.std.proofs.Math.Option.{none}
use Rattle.grammar.specs.Steps.{rules, line_part, whatever, code_parts, locals_part}
use Rattle.grammar.specs.Record.{Tables, node_of, whole, suited}
use Rattle.writing.specs.Writing.{Writing, ended, emit, then, each}
use Rattle.writing.specs.Canonical.{bytes32, shown_line}
use Rattle.writing.specs.Names.{contents_of}
use Rattle.writing.specs.Steps.{as_value, manners, part, writing, parted}
use Rattle.underway.specs.Rows.{row_of_node, line_of}

-- the children of a node, each with so many levels
abbrev pub row_written : Tables → (allowance node : ℕ) → Writing
row_written t a n = each (writing a t) (row_of_node t n)

-- the parts of a code
abbrev pub parts_written : Tables → (allowance node : ℕ) → Writing
parts_written t a n = parted t a (writing a t) (line_of t n) (row_of_node t n)

-- a code's first line, which comes where it stands: before the ninth part
abbrev pub line_at : (i line : ℕ) → Writing → Writing
line_at i line w = cond (eqb i line_part) (emit (bytes32 (shown_line line)) w) w

-- a part in its place, with what it asks
abbrev pub lined_part : Tables → (allowance line : ℕ) → (kinds : List ℕ) → (i node : ℕ) → Writing
lined_part t a line kinds i v = line_at i line (part t a (writing a t) kinds (get_or manners i as_value) v)

-- the same, the kinds of local names being told by their node
abbrev pub part_written : Tables → (allowance line kinds i node : ℕ) → Writing
part_written t a line kinds = lined_part t a line (contents_of t kinds)

-- the parts that are left, from one on
unfoldable pub parts_from : Tables → (allowance line : ℕ) → (kinds : List ℕ) → (i : ℕ) → List ℕ → Writing
parts_from t a line kinds i [] = ended
parts_from t a line kinds i (v ∷ vs) = then (lined_part t a line kinds i v) (parts_from t a line kinds (i + 1) vs)

-- what is asked of a part: its code has tested it
pub record PartIn (t : Tables) (kinds i v : ℕ) : Type 0 where
  pub below : i < code_parts
  pub fits : suited t (get_or rules i whatever) v (whole t v) ≡ none
  pub within : (node_of t kinds).place + (node_of t kinds).size ≤ length t.input
  pub even : i ≡ locals_part → (node_of t kinds).size ≡ (node_of t v).count
