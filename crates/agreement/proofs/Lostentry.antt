-- One answer for each call of the functions of `lostentry`, by one equation.
use mathlib.Core.Path.{refl}
use Rattle.lostentry.proofs as lostentry
use Rattle.lostentry.specs.contracts as lostentry_contracts
use Rattle.agreement.specs.Agreement.{Agree}
use Rattle.agreement.proofs.Same.{one}

pub lost-entry-agrees : Agree lostentry_contracts.lost_entry.ended lostentry.lost_entry.Reads.Asked lostentry.lost_entry.Reads.Learnt
lost-entry-agrees κs a asked r r' ws ws' p p' = (one p p', refl)
