-- `startindex::put_blocks` meets its contract: what is left to store still comes to the same index, and the total is the count so far.
-- Assumes nothing.
use Rattle.startindex.proofs.Blocks.{Laying}
use Rattle.startindex.proofs.put_blocks.Given as goal

abbrev pub invariant-loop-b : goal.invariant-loop-b
invariant-loop-b l = Laying l.records.numbers.now l.records.count l.n l.initial.index l.index l.total l.b
