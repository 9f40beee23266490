-- `printedtotals::lines_size` meets its contract: the lines counted and those left are all.
-- Assumes nothing.
use Rattle.printedtotals.proofs.Printing.{SizeSoFar}
use Rattle.printedtotals.proofs.lines_size.Given as goal

abbrev pub invariant-loop-i : goal.invariant-loop-i
invariant-loop-i l = SizeSoFar l.store l.size l.i
