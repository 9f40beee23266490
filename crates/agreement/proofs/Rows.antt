-- One answer for each call of the function of `rows`: the summary of a row, by one equation.
use mathlib.Core.Path.{refl}
use Rattle.rows.proofs as rows
use Rattle.rows.specs.contracts as rows_contracts
use Rattle.agreement.specs.Agreement.{Agree}
use Rattle.agreement.proofs.Same.{one}

pub walk-row-agrees : Agree rows_contracts.walk_row.ended rows.walk_row.Reads.Asked rows.walk_row.Reads.Learnt
walk-row-agrees κs a asked r r' ws ws' p p' = (one p p', refl)
