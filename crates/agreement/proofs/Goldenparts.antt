-- One answer for each call of the functions of `goldenparts`: the golden's parts or the refusal, and the three stores, by an equation each.
use Rattle.grammar.proofs.Numbered.{numbered_injective}
use Rattle.goldenparts.proofs as goldenparts
use Rattle.goldenparts.specs.contracts as goldenparts_contracts
use Rattle.agreement.specs.Agreement.{Agree}
use Rattle.agreement.proofs.Same.{one}

pub old_parts-agrees : Agree goldenparts_contracts.old_parts.ended goldenparts.old_parts.Reads.Asked goldenparts.old_parts.Reads.Learnt
old_parts-agrees κs a asked r r' ws ws' p p' = (
  numbered_injective r r' (one p.0 p'.0),
  λ i. (tt, (one p.2 p'.2 i, (one p.3 p'.3 i, (one p.4 p'.4 i, (tt, tt))))),
)

pub new_parts-agrees : Agree goldenparts_contracts.new_parts.ended goldenparts.new_parts.Reads.Asked goldenparts.new_parts.Reads.Learnt
new_parts-agrees κs a asked r r' ws ws' p p' = (
  numbered_injective r r' (one p.0 p'.0),
  λ i. (tt, (one p.2 p'.2 i, (one p.3 p'.3 i, (one p.4 p'.4 i, (tt, tt))))),
)
