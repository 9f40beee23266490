-- One answer for each call of the functions of `keep`: answer, the three stores and the stack, by an equation each.
use mathlib.Core.Path.{refl}
use Rattle.keep.proofs as keep
use Rattle.keep.specs.contracts as keep_contracts
use Rattle.agreement.specs.Agreement.{Agree}
use Rattle.agreement.proofs.Same.{one}

pub keep_need-agrees : Agree keep_contracts.keep_need.ended keep.keep_need.Reads.Asked keep.keep_need.Reads.Learnt
keep_need-agrees κs a asked r r' ws ws' p p' = (one p.0 p'.0, refl)

pub keep_agrees : Agree keep_contracts.keep.ended keep.keep.Reads.Asked keep.keep.Reads.Learnt
keep_agrees κs a asked r r' ws ws' p p' = (
  one p.answer p'.answer,
  λ i. (
    one p.holds-nodes p'.holds-nodes i,
    (one p.holds-entries p'.holds-entries i, (one p.holds-slots p'.holds-slots i, (tt, (tt, (tt, (one p.cleared p'.cleared i, tt)))))),
  ),
)
