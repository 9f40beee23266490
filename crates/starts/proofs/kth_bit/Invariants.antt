-- `starts::kth_bit` meets its contract: what is left to count still comes to the same bit. Assumes nothing.
use Rattle.starts.proofs.Loops.{Counting}
use Rattle.starts.proofs.kth_bit.Given as goal

abbrev pub invariant-loop-i : goal.invariant-loop-i
invariant-loop-i l = Counting l.word l.k l.rest l.left l.i
