-- One answer for each call of the functions of `locate`: answer and records, by an equation each.
use Rattle.linetable.proofs.Outcomes.{numbered_injective}
use Rattle.locate.proofs as locate
use Rattle.locate.specs.contracts as locate_contracts
use Rattle.agreement.specs.Agreement.{Agree}
use Rattle.agreement.proofs.Same.{one}

pub locate_node-agrees : Agree locate_contracts.locate_node.ended locate.locate_node.Reads.Asked locate.locate_node.Reads.Learnt
locate_node-agrees κs a asked r r' ws ws' p p' = (numbered_injective r r' (one p.0 p'.0), λ i. (tt, (tt, (tt, (tt, (tt, (tt, (one p.1 p'.1 i, tt))))))))
