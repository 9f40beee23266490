-- One answer for each call of the functions of `totals`: answer and store by one equation.
use mathlib.Core.Path.{refl}
use Rattle.totals.proofs as totals
use Rattle.totals.specs.contracts as totals_contracts
use Rattle.agreement.specs.Agreement.{Agree}
use Rattle.agreement.proofs.Same.{one}

pub count-answers-agrees : Agree totals_contracts.count_answers.ended totals.count_answers.Reads.Asked totals.count_answers.Reads.Learnt
count-answers-agrees κs a asked r r' ws ws' p p' = (λ i. (one p p' i).0, λ i. (tt, (tt, ((one p p' i).1, tt))))

pub add-totals-agrees : Agree totals_contracts.add_totals.ended totals.add_totals.Reads.Asked totals.add_totals.Reads.Learnt
add-totals-agrees κs a asked r r' ws ws' p p' = (λ i. (one p p' i).0, λ i. (tt, (tt, ((one p p' i).1, tt))))

pub counter_agrees : Agree totals_contracts.counter.ended totals.counter.Reads.Asked totals.counter.Reads.Learnt
counter_agrees κs a asked r r' ws ws' p p' = (one p p', refl)
