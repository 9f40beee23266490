-- The entry's promise: one answer and one content of the output for any input, stores, counts, nesting and output.
use Rattle.std.specs.Prelude.{◌≡◌, ℕ, List, length}
use Rattle.grammar.specs.Numbered.{numbered}
use Rattle.grammar.specs.Reading.{Answer, gives, stops}
use Rattle.grammar.specs.Record.{Tables}
use Rattle.writing.specs.Answer.{written, output_held}
use Rattle.output.specs.Puts.{Wrote}

-- 01's number and values for each case: how many bytes were written, or the refusal's number and place
abbrev pub length_in : Answer (List ℕ) → Answer ℕ
length_in (gives bytes) = gives (length bytes)
length_in (stops number place) = stops number place

pub record Serialized (answer : Answer (List ℕ)) (room : ℕ) (r : Wrote) (output : List ℕ) : Type 0 where
  pub answers : numbered r ≡ length_in answer
  pub holds : output ≡ output_held room answer

-- of these stores, this node, and an output of so many bytes
abbrev pub Serializes : Tables → (root nesting room : ℕ) → Wrote → (output : List ℕ) → Type 0
Serializes t root nesting room = Serialized (written t root nesting room) room
