-- One answer for each call of the function of `readalone`: the answer in the grammar's words, and the three stores, by an equation each.
use Rattle.grammar.proofs.Numbered.{numbered_injective}
use Rattle.readalone.proofs as readalone
use Rattle.readalone.specs.contracts as readalone_contracts
use Rattle.agreement.specs.Agreement.{Agree}
use Rattle.agreement.proofs.Same.{one}

pub read-alone-agrees : Agree readalone_contracts.read_alone.ended readalone.read_alone.Reads.Asked readalone.read_alone.Reads.Learnt
read-alone-agrees κs a asked r r' ws ws' p p' = (
  numbered_injective r r' (one p.0 p'.0),
  λ i. (tt, (tt, (one p.1 p'.1 i, (one p.2 p'.2 i, (one p.3 p'.3 i, (tt, tt)))))),
)
