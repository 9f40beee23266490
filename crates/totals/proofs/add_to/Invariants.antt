-- `totals::add_to` meets its contract: at each turn the counters before the next one are summed.
-- Assumes nothing.
use Rattle.totals.proofs.Adding.{AddSoFar}
use Rattle.totals.proofs.add_to.Given as goal

abbrev pub invariant-loop-i : goal.invariant-loop-i
invariant-loop-i l = AddSoFar l.a l.initial.sum l.sum l.i
