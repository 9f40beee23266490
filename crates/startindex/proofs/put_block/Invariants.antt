-- `startindex::put_block` meets its contract: what is left to store still comes to the same block, and the sum is the count so far.
-- Assumes nothing.
use Rattle.startindex.proofs.Blocks.{Filling}
use Rattle.startindex.proofs.put_block.Given as goal

abbrev pub invariant-loop-j : goal.invariant-loop-j
invariant-loop-j l = Filling l.records.numbers.now l.records.count l.b l.at l.initial.index l.index l.sum l.i l.j
