-- One answer for each call of the functions of `localsplus`: the sum, and the split with its five stores, by an equation each.
use mathlib.Core.Path.{refl}
use Rattle.localsplus.proofs as localsplus
use Rattle.localsplus.specs.contracts as localsplus_contracts
use Rattle.localsplus.proofs.Theorems.{one_answer}
use Rattle.agreement.specs.Agreement.{Agree}
use Rattle.agreement.proofs.Same.{one}

pub argument_sum-agrees : Agree localsplus_contracts.argument_sum.ended localsplus.argument_sum.Reads.Asked localsplus.argument_sum.Reads.Learnt
argument_sum-agrees κs a asked r r' ws ws' p p' = (one p p', refl)

pub split_localplus_agrees : Agree localsplus_contracts.split_localplus.ended localsplus.split_localplus.Reads.Asked localsplus.split_localplus.Reads.Learnt
split_localplus_agrees κs a asked r r' ws ws' p p' =
    let e = one_answer refl refl refl refl refl p p' in
    (e.0, λ i. (tt, (tt, (tt, (tt, (tt, (e.1 i, (e.2 i, (e.3 i, (e.4 i, (e.5 i, tt)))))))))))
