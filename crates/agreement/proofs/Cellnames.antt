-- One answer for each call of the functions of `cellnames`: the answer, by an equation.
use mathlib.Core.Path.{refl}
use Rattle.cellnames.proofs as cellnames
use Rattle.cellnames.specs.contracts as cellnames_contracts
use Rattle.agreement.specs.Agreement.{Agree}
use Rattle.agreement.proofs.Same.{one}

pub belongs_agrees : Agree cellnames_contracts.belongs.ended cellnames.belongs.Reads.Asked cellnames.belongs.Reads.Learnt
belongs_agrees κs a asked r r' ws ws' p p' = (one p p', refl)
