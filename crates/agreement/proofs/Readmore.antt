-- One answer for each call of the functions of `readmore`: the answer in the grammar's words, and the three stores, by an equation each.
use Rattle.reader.specs.Delivered.{answer_of}
use Rattle.readmore.proofs as readmore
use Rattle.readmore.specs.contracts as readmore_contracts
use Rattle.agreement.specs.Agreement.{Agree}
use Rattle.agreement.proofs.Same.{one, retold}
use Rattle.agreement.proofs.Reader.{outcome_from, outcome_back}

pub read_more_agrees : Agree readmore_contracts.read_more.ended readmore.read_more.Reads.Asked readmore.read_more.Reads.Learnt
read_more_agrees κs a asked r r' ws ws' p p' = (
  retold answer_of outcome_from outcome_back p.answer p'.answer,
  λ i. (tt, (one p.nodes p'.nodes i, (one p.entries p'.entries i, (one p.slots p'.slots i, (tt, (tt, (tt, (tt, tt)))))))),
)
