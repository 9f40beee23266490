-- `starts::kth_bit` meets its contract: what is left to count still comes to the same bit. Assumes nothing.
use Rattle.starts.proofs.Loops.{counting_none, counting_more, counting-found, counting_all}
use Rattle.starts.proofs.kth_bit.Goals as goal

pub loop-i-init : goal.loop-i-init
loop-i-init c = counting_none _ _ c.requires

pub returns-then-left-eq0 : goal.returns-then-left-eq0
returns-then-left-eq0 c = counting-found c.loop-i.invariant c.loop-i-test.true c.if-left-eq0.true

pub loop-i-preserved : goal.loop-i-preserved
loop-i-preserved c = counting_more c.loop-i.invariant c.loop-i-test.true c.if-left-eq0.false

pub returns : goal.returns
returns c = counting_all c.loop-i.invariant c.loop-i-test.false
