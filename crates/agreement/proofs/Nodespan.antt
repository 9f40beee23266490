-- One answer for each call of the functions of `nodespan`: the answer, by an equation.
use mathlib.Core.Path.{refl}
use Rattle.grammar.proofs.Numbered.{numbered_injective}
use Rattle.nodespan.proofs as nodespan
use Rattle.nodespan.specs.contracts as nodespan_contracts
use Rattle.agreement.specs.Agreement.{Agree}
use Rattle.agreement.proofs.Same.{one}

pub span_of-agrees : Agree nodespan_contracts.span_of.ended nodespan.span_of.Reads.Asked nodespan.span_of.Reads.Learnt
span_of-agrees κs a asked r r' ws ws' p p' = (numbered_injective r r' (one p p'), refl)
