-- One answer for each call of the functions of `goldens`: answer and output by one equation, and the three stores by one each.
use mathlib.Core.Path.{refl}
use Rattle.grammar.proofs.Numbered.{numbered_injective}
use Rattle.goldens.proofs as goldens
use Rattle.goldens.specs.contracts as goldens_contracts
use Rattle.agreement.specs.Agreement.{Agree}
use Rattle.agreement.proofs.Same.{one}

pub to_fields-agrees : Agree goldens_contracts.to_fields.ended goldens.to_fields.Reads.Asked goldens.to_fields.Reads.Learnt
to_fields-agrees κs a asked r r' ws ws' p p' = (
  numbered_injective r r' (λ i. (one p.0 p'.0 i).0),
  λ i. (tt, (one p.1 p'.1 i, (one p.2 p'.2 i, (one p.3 p'.3 i, (tt, ((one p.0 p'.0 i).1, tt)))))),
)

pub to_plain-agrees : Agree goldens_contracts.to_plain.ended goldens.to_plain.Reads.Asked goldens.to_plain.Reads.Learnt
to_plain-agrees κs a asked r r' ws ws' p p' = (
  numbered_injective r r' (λ i. (one p.0 p'.0 i).0),
  λ i. (tt, (one p.1 p'.1 i, (one p.2 p'.2 i, (one p.3 p'.3 i, (tt, ((one p.0 p'.0 i).1, tt)))))),
)
