-- One answer for each call of the functions of `decimals`: the digits of a number and their count.
use mathlib.Core.Path.{refl}
use Rattle.decimals.proofs as decimals
use Rattle.decimals.specs.contracts as decimals_contracts
use Rattle.agreement.specs.Agreement.{Agree}
use Rattle.agreement.proofs.Same.{one}

pub digit_count-agrees : Agree decimals_contracts.digit_count.ended decimals.digit_count.Reads.Asked decimals.digit_count.Reads.Learnt
digit_count-agrees κs a asked r r' ws ws' p p' = (one p.0 p'.0, refl)

pub put-decimal-agrees : Agree decimals_contracts.put_decimal.ended decimals.put_decimal.Reads.Asked decimals.put_decimal.Reads.Learnt
put-decimal-agrees κs a asked r r' ws ws' p p' = (one p.0 p'.0, λ i. (one p.1 p'.1 i, (tt, (tt, tt))))
