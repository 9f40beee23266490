-- One answer for each call of the functions of `signed`: the number, by an equation.
use mathlib.Core.Path.{refl}
use Rattle.signed.proofs as signed
use Rattle.signed.specs.contracts as signed_contracts
use Rattle.agreement.specs.Agreement.{Agree}
use Rattle.agreement.proofs.Same.{one}

pub bits32_agrees : Agree signed_contracts.bits32.ended signed.bits32.Reads.Asked signed.bits32.Reads.Learnt
bits32_agrees κs a asked r r' ws ws' p p' = (one p p', refl)

pub signed32_agrees : Agree signed_contracts.signed32.ended signed.signed32.Reads.Asked signed.signed32.Reads.Learnt
signed32_agrees κs a asked r r' ws ws' p p' = (one p p', refl)

pub signed64_agrees : Agree signed_contracts.signed64.ended signed.signed64.Reads.Asked signed.signed64.Reads.Learnt
signed64_agrees κs a asked r r' ws ws' p p' = (one p p', refl)

pub wide-agrees : Agree signed_contracts.wide.ended signed.wide.Reads.Asked signed.wide.Reads.Learnt
wide-agrees κs a asked r r' ws ws' p p' = (one p.0 p'.0, refl)
