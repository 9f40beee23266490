-- The answer of `deserialize_value` in 01's numbers and values, and the whole of what it delivers.
-- 01, 'What is lent and what is kept': "The answer gives bytes consumed and the three counts used".
use Rattle.std.specs.Prelude.{◌≡◌, ℕ, List, Result, Ok, Err}
use Rattle.refusals.specs.Faults.{number_of}
use Rattle.refusals.specs.declared.Fault.{Fault}
use Rattle.grammar.specs.Reading.{Answer, gives, stops}
use Rattle.grammar.specs.Answer.{Counts}
use Rattle.grammar.specs.Answer as whole
use Rattle.reader.specs.declared.Read.{Read}

-- each case with its values: read, with the counts; refused, with 01's number and the place
abbrev pub answer_of : Result Read Fault → Answer Counts
answer_of (Ok read) = gives (record { consumed = read.consumed; nodes = read.nodes; entries = read.entries; slots = read.slots })
answer_of (Err f) = stops (number_of f.refusal) f.place

-- answer and exit contents are those of an outcome
pub record Delivers (o : whole.Outcome) (r : Result Read Fault) (ns es ss : List ℕ) : Type 0 where
  pub answer : answer_of r ≡ o.answer
  pub nodes : ns ≡ o.nodes
  pub entries : es ≡ o.entries
  pub slots : ss ≡ o.slots
