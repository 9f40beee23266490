-- `lineentry::quick::is_plain` meets its contract, test by test.
use mathlib.Core.Path.{refl}
use Rattle.lineentry.proofs.Bytes.{too_few, plain_test}
use Rattle.lineentry.proofs.quick.is_plain.Goals as goal

pub returns-then-saturating_sub-le2 : goal.returns-then-saturating_sub-le2
returns-then-saturating_sub-le2 c = too_few _ _ c.saturating_sub.ensures c.if-saturating_sub-le2.true

pub returns : goal.returns
returns c = plain_test _ _ c.saturating_sub.ensures c.if-saturating_sub-le2.false refl
