-- `bypiece::onebyte::lasts_held` meets its contract: what is left to count still comes to the same.
use Rattle.bypiece.proofs.Cuts.{Counting}
use Rattle.bypiece.proofs.onebyte.lasts_held.Given as goal

abbrev pub invariant-loop-number : goal.invariant-loop-number
invariant-loop-number l = Counting l.held l.n l.number-index
