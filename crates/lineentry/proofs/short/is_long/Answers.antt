-- `lineentry::short::is_long` meets its contract, test by test.
use Rattle.lineentry.proofs.Shorts.{too_few-long, long_test}
use Rattle.lineentry.proofs.short.is_long.Goals as goal

pub returns-then-saturating_sub-le8 : goal.returns-then-saturating_sub-le8
returns-then-saturating_sub-le8 c = too_few-long _ _ c.saturating_sub.ensures c.if-saturating_sub-le8.true

pub returns : goal.returns
returns c = long_test _ _ c.saturating_sub.ensures c.if-saturating_sub-le8.false
