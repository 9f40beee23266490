-- One answer for each call of the functions of `reader`: the answer in the grammar's words, and the three stores, by an
-- equation each.
use mathlib.Core.Path.{◌≡◌, refl, ap}
use Rattle.grammar.specs.Reading.{Answer, gives, stops}
use Rattle.grammar.specs.Answer.{Counts}
use Rattle.std.specs.Prelude.{Result, Ok, Err}
use Rattle.refusals.specs.declared.Fault.{Fault}
use Rattle.refusals.proofs.Faults.{fault_at, fault_back}
use Rattle.reader.specs.declared.Read.{Read}
use Rattle.reader.specs.Delivered.{answer_of}
use Rattle.reader.proofs as reader
use Rattle.reader.specs.contracts as reader_contracts
use Rattle.agreement.specs.Agreement.{Agree}
use Rattle.agreement.proofs.Same.{one, retold}

-- the answer, from the grammar's words back
abbrev pub outcome_from : Answer Counts → Result Read Fault
outcome_from (gives counts) = Ok (record { consumed = counts.consumed; nodes = counts.nodes; entries = counts.entries; slots = counts.slots })
outcome_from (stops number place) = Err (fault_at number place)

pub outcome_back : (r : Result Read Fault) → outcome_from (answer_of r) ≡ r
outcome_back (Ok read) = refl
outcome_back (Err f) = ap (λ (g : Fault). Err g) (fault_back f)

pub deserialize_value-agrees : Agree reader_contracts.deserialize_value.ended reader.deserialize_value.Reads.Asked reader.deserialize_value.Reads.Learnt
deserialize_value-agrees κs a asked r r' ws ws' p p' = (
  retold answer_of outcome_from outcome_back p.answer p'.answer,
  λ i. (tt, (one p.nodes p'.nodes i, (one p.entries p'.entries i, (one p.slots p'.slots i, (tt, tt))))),
)
