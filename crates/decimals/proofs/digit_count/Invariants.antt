-- `decimals::digit_count` meets its contract: the digits counted and those above are all of them.
-- Assumes nothing.
use Rattle.decimals.proofs.Putting.{CountSoFar}
use Rattle.decimals.proofs.digit_count.Given as goal

abbrev pub invariant-loop-above : goal.invariant-loop-above
invariant-loop-above l = CountSoFar l.n l.count l.above

abbrev pub decreases-loop-above : goal.decreases-loop-above
decreases-loop-above l = l.above
