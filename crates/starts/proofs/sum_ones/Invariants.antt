-- `starts::sum_ones` meets its contract: what is left to add still comes to the same sum. Assumes nothing.
use Rattle.starts.proofs.Loops.{Summing}
use Rattle.starts.proofs.sum_ones.Given as goal

abbrev pub invariant-loop-j : goal.invariant-loop-j
invariant-loop-j l = Summing l.index l.from l.n l.sum l.j
