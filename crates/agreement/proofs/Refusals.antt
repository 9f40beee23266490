-- One answer for each call of the functions of `refusals`: the number and the fault, by an equation.
use mathlib.Core.Path.{refl}
use Rattle.refusals.proofs as refusals
use Rattle.refusals.specs.contracts as refusals_contracts
use Rattle.agreement.specs.Agreement.{Agree}
use Rattle.agreement.proofs.Same.{one}

pub number_agrees : Agree refusals_contracts.Refusal.number.ended refusals.Refusal.number.Reads.Asked refusals.Refusal.number.Reads.Learnt
number_agrees κs a asked r r' ws ws' p p' = (one p p', refl)

pub at_agrees : Agree refusals_contracts.Refusal.at.ended refusals.Refusal.at.Reads.Asked refusals.Refusal.at.Reads.Learnt
at_agrees κs a asked r r' ws ws' p p' = (one p p', refl)
