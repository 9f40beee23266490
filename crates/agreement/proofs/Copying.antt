-- One answer for each call of the function of `copying`: the output, by one equation.
use mathlib.Core.Path.{refl}
use Rattle.copying.proofs as copying
use Rattle.copying.specs.contracts as copying_contracts
use Rattle.agreement.specs.Agreement.{Agree}
use Rattle.agreement.proofs.Same.{one}

pub copy_bytes-agrees : Agree copying_contracts.copy_bytes.ended copying.copy_bytes.Reads.Asked copying.copy_bytes.Reads.Learnt
copy_bytes-agrees κs a asked r r' ws ws' p p' = (refl, λ i. (one p p' i, (tt, tt)))
