-- `decimals::digit_count` meets its contract: the digits counted and those above are all of them.
-- Assumes nothing.
use borrow.Author.Rules.{rules}
use Rattle.decimals.proofs.Putting.{count-start, count_turn, count_end}
use Rattle.decimals.proofs.digit_count.Goals as goal

pub loop-above-init : goal.loop-above-init
loop-above-init c = count-start _ (search rules)

pub loop-above-preserved : goal.loop-above-preserved
loop-above-preserved c = count_turn c.loop-above.invariant c.loop-above-test.true

pub returns : goal.returns
returns c = count_end c.loop-above.invariant c.loop-above-test.false
