-- 01, 'Writing it back': the whole answer to the writing of a node, and the exact contents of the output, accepted or refused: a function of
-- the input, the stores, the counts used, the node, the nesting and the output's length.
use Rattle.std.specs.Prelude.{ℕ, min, cond, List, [], length, ltb}
use Rattle.refusals.specs.Numbers.{input_too_long}
use Rattle.refusals.specs.Limits.{most_bytes, most_nesting, nothing}
use Rattle.clearing.specs.Lent.{zeros, padded}
use Rattle.grammar.specs.Reading.{Answer, gives, stops}
use Rattle.grammar.specs.Record.{Tables}
use Rattle.writing.specs.Writing.{into}
use Rattle.writing.specs.Steps.{writing}

-- an output counts as at most so many bytes, the greatest number that a place can hold
abbrev pub most_output : ℕ
most_output = nothing

-- "InputTooLong, tested before all", at 0; then the node, with the nesting cut as in reading.
unfoldable pub written : Tables → (root nesting room : ℕ) → Answer (List ℕ)
unfolding into writing
written t root nesting room =
    cond (ltb most_bytes (length t.input)) (stops input_too_long 0) (into (min room most_output) [] (writing (min nesting most_nesting) t root))

-- "every store lent for writing is all zero. On acceptance, all past what was written is zero."
abbrev pub output_held : ℕ → Answer (List ℕ) → List ℕ
output_held room (gives bytes) = padded room bytes
output_held room (stops number place) = zeros room
