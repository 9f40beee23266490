-- One answer for each call of `printedtotals::print_totals`: answer and output by one equation.
use Rattle.printedtotals.proofs as printedtotals
use Rattle.printedtotals.specs.contracts as printedtotals_contracts
use Rattle.agreement.specs.Agreement.{Agree}
use Rattle.agreement.proofs.Same.{one}

pub print_totals-agrees : Agree printedtotals_contracts.print_totals.ended printedtotals.print_totals.Reads.Asked printedtotals.print_totals.Reads.Learnt
print_totals-agrees κs a asked r r' ws ws' p p' = (λ i. (one p p' i).0, λ i. (tt, ((one p p' i).1, tt)))
