-- `leaf::magnitude` meets its contract. The loop's invariant: the digits counted so far stand above those that are left.
-- Assumes nothing.
use Rattle.leaf.proofs.Digits.{counting, counted_all, one_more, beyond}
use Rattle.leaf.proofs.magnitude.Goals as goal

pub loop-left-init : goal.loop-left-init
loop-left-init c = counting _ _ _

pub returns-then-number-gt281474976710656 : goal.returns-then-number-gt281474976710656
returns-then-number-gt281474976710656 c = beyond c.loop-left.invariant c.loop-left-test.true c.if-number-gt281474976710656.true

pub loop-left-preserved : goal.loop-left-preserved
loop-left-preserved c = one_more c.loop-left.invariant c.loop-left-test.true c.le16-digit.ensures.0

pub returns : goal.returns
returns c = counted_all c.loop-left.invariant c.loop-left-test.false
