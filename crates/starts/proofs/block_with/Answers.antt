-- `starts::block_with` meets its contract: what is left to bisect still comes to the same block. Assumes nothing.
use Rattle.starts.proofs.Loops.{seeking_none, seeking_up, seeking_down, seeking_all}
use Rattle.starts.proofs.block_with.Goals as goal

pub loop-high-init : goal.loop-high-init
loop-high-init c = seeking_none _ _ _ c.requires.1

pub loop-high-preserved-then-index-middle : goal.loop-high-preserved-then-index-middle
loop-high-preserved-then-index-middle c = seeking_up c.loop-high.invariant c.loop-high-test.true c.if-index-middle.true

pub loop-high-preserved : goal.loop-high-preserved
loop-high-preserved c = seeking_down c.loop-high.invariant c.loop-high-test.true c.if-index-middle.false

pub returns : goal.returns
returns c = seeking_all c.loop-high.invariant c.loop-high-test.false
