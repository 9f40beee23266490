-- One answer for each call of the functions of `starts`, by one equation.
use mathlib.Core.Path.{refl}
use Rattle.starts.proofs as starts
use Rattle.starts.specs.contracts as starts_contracts
use Rattle.agreement.specs.Agreement.{Agree}
use Rattle.agreement.proofs.Same.{one}

pub starts_before-agrees : Agree starts_contracts.starts_before.ended starts.starts_before.Reads.Asked starts.starts_before.Reads.Learnt
starts_before-agrees κs a asked r r' ws ws' p p' = (one p p', refl)

pub start_at-agrees : Agree starts_contracts.start_at.ended starts.start_at.Reads.Asked starts.start_at.Reads.Learnt
start_at-agrees κs a asked r r' ws ws' p p' = (one p p', refl)
