-- Carried by `Counting`: what is counted, and what is left to count. Assumes nothing.
use mathlib.Core.Path.{refl}
use Rattle.nodespan.proofs.Walks.{count-start, count_more, count_end}
use Rattle.nodespan.proofs.flagged_before.Goals as goal

pub loop-node-init : goal.loop-node-init
loop-node-init c = count-start _ _ _ _

pub loop-node-preserved : goal.loop-node-preserved
loop-node-preserved c = count_more _ _ _ _ c.loop-node.invariant c.loop-node-test.true c.reserves-slots.ensures.0 c.reserves-slots.ensures.1 refl

pub returns : goal.returns
returns c = count_end _ _ _ _ c.loop-node.invariant c.loop-node-test.false
