-- The structs that the reader's and the writer's exports return: 01's numbers of each answer.
use Rattle.std.specs.Prelude.{◌≡◌, List, ℕ}
use Rattle.refusals.specs.Numbers.{accepted}
use Rattle.grammar.specs.Reading.{Answer, gives, stops}
use Rattle.grammar.specs.Answer.{Counts, Outcome}
use Rattle.writing.specs.Answer.{output_held}
use Rattle.writer.specs.Entry.{length_in}
use Rattle.sillgarland.specs.declared.values.SillRead.{SillRead}
use Rattle.sillgarland.specs.declared.varints.SillWritten.{SillWritten}

abbrev pub read_struct : Answer Counts → SillRead
read_struct (gives counts) =
    record {
      refusal = accepted;
      place = 0;
      consumed = counts.consumed;
      nodes = counts.nodes;
      entries = counts.entries;
      slots = counts.slots;
    }
read_struct (stops number place) = record { refusal = number; place = place; consumed = 0; nodes = 0; entries = 0; slots = 0 }

-- The contract: r gives the answer's numbers, and the three stores hold what the outcome says.
pub record ReadAs (o : Outcome) (r : SillRead) (nodes entries slots : List ℕ) : Type 0 where
  pub numbers : r ≡ read_struct o.answer
  pub holds-nodes : nodes ≡ o.nodes
  pub holds-entries : entries ≡ o.entries
  pub holds-slots : slots ≡ o.slots

abbrev pub wrote_struct : Answer ℕ → SillWritten
wrote_struct (gives bytes) = record { refusal = accepted; place = 0; written = bytes }
wrote_struct (stops number place) = record { refusal = number; place = place; written = 0 }

-- The contract: r gives the answer's numbers, and the output holds the bytes, then zeros; refused, zeros.
pub record WroteAs (answer : Answer (List ℕ)) (room : ℕ) (r : SillWritten) (output : List ℕ) : Type 0 where
  pub numbers : r ≡ wrote_struct (length_in answer)
  pub holds : output ≡ output_held room answer
