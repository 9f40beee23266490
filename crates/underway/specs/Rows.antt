-- No export and no promise rests on this page.
-- A node's row of children and what closes it, a code's first line, and the levels that are left for a node: the words in which the crates
-- that write say what is still to come. 01, 'Writing it back': "Node by node in writing order".
use Rattle.std.specs.Prelude.{ℕ, zero, suc, ◌+◌, Bool, true, false, List, [], ◌∷◌}
use Rattle.grammar.specs.LetterNames.{null_letter}
use Rattle.grammar.specs.Fields.{le32}
use Rattle.grammar.specs.Record.{Tables, node_of, chain}
use Rattle.writing.specs.Writing.{Writing, ended, emit}
use Rattle.writing.specs.Steps.{is_code}
use Rattle.cellnames.specs.Groups.{or_none}

-- the children of a chain
abbrev pub kids_from : Tables → (count first : ℕ) → List ℕ
kids_from t count first = or_none (chain t count first)

-- the children of a node whose chain is sound
abbrev pub row_of_node : Tables → ℕ → List ℕ
row_of_node t n = kids_from t (node_of t n).count (node_of t n).first

-- what stands behind a row: of pairs, a dict's closing byte, which comes where it stands
abbrev pub closed : (pairs : Bool) → Writing
closed true = emit (null_letter ∷ []) ended
closed false = ended

-- the first line of a code, behind its parts
abbrev pub line_of : Tables → ℕ → ℕ
line_of t n = le32 t.input ((node_of t n).place + (node_of t n).size)

-- no level left for a node, or for the body of a code
abbrev pub out_of_levels : Tables → (allowance node : ℕ) → Bool
out_of_levels t zero n = true
out_of_levels t (suc zero) n = is_code t n
out_of_levels t (suc (suc a)) n = false
