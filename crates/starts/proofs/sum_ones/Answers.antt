-- `starts::sum_ones` meets its contract: what is left to add still comes to the same sum. Assumes nothing.
use Rattle.starts.proofs.Loops.{summing_none, summing_more, summing_all}
use Rattle.starts.proofs.sum_ones.Goals as goal

pub loop-j-init : goal.loop-j-init
loop-j-init c = summing_none _ _ _

pub loop-j-preserved : goal.loop-j-preserved
loop-j-preserved c = summing_more c.loop-j.invariant c.loop-j-test.true c.ones_of-sum.ensures.0 c.ones_of-sum.ensures.1

pub returns : goal.returns
returns c = summing_all c.loop-j.invariant c.loop-j-test.false c.requires.1
