-- `printedtotals::put_lines` meets its contract: the lines from each turn on make the whole.
-- Assumes nothing.
use Rattle.printedtotals.proofs.Printing.{LinesSoFar}
use Rattle.printedtotals.proofs.put_lines.Given as goal

abbrev pub invariant-loop-i : goal.invariant-loop-i
invariant-loop-i l = LinesSoFar l.store l.initial.out l.out l.at l.i
