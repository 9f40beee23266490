-- `starts::kth_in_words` meets its contract: what is left to search still comes to the same answer. Assumes nothing.
use Rattle.starts.proofs.Loops.{Searching}
use Rattle.starts.proofs.kth_in_words.Given as goal

abbrev pub invariant-loop-j : goal.invariant-loop-j
invariant-loop-j l = Searching l.index l.from l.first l.k l.left l.i l.j
