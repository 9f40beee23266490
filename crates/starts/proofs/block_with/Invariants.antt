-- `starts::block_with` meets its contract: what is left to bisect still comes to the same block. Assumes nothing.
use Rattle.std.proofs.Common.{◌-◌}
use Rattle.starts.proofs.Loops.{Seeking}
use Rattle.starts.proofs.block_with.Given as goal

abbrev pub invariant-loop-high : goal.invariant-loop-high
invariant-loop-high l = Seeking l.index l.blocks l.k l.low l.high

abbrev pub decreases-loop-high : goal.decreases-loop-high
decreases-loop-high l = l.high - l.low
