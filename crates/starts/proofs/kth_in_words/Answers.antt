-- `starts::kth_in_words` meets its contract: what is left to search still comes to the same answer. Assumes nothing.
use Rattle.starts.proofs.Loops.{searching_none, searching_more, searching_found, searching_all}
use Rattle.starts.proofs.kth_in_words.Goals as goal

pub loop-j-init : goal.loop-j-init
loop-j-init c = searching_none _ _ _ _ c.requires.2

pub returns-then-left-own : goal.returns-then-left-own
returns-then-left-own c = searching_found c.loop-j.invariant c.loop-j-test.true c.ones_of-own.ensures.0 c.if-left-own.true c.kth_bit.ensures.0

pub loop-j-preserved : goal.loop-j-preserved
loop-j-preserved c = searching_more c.loop-j.invariant c.loop-j-test.true c.ones_of-own.ensures.0 c.if-left-own.false

pub returns : goal.returns
returns c = searching_all c.loop-j.invariant c.loop-j-test.false
