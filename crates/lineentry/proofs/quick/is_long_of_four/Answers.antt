-- `lineentry::quick::is_long_of_four` meets its contract, test by test.
use mathlib.Core.Path.{refl}
use Rattle.lineentry.proofs.Bytes.{too_few_of_four, four_test}
use Rattle.lineentry.proofs.quick.is_long_of_four.Goals as goal

pub returns-then-saturating_sub-le4 : goal.returns-then-saturating_sub-le4
returns-then-saturating_sub-le4 c = too_few_of_four _ _ c.saturating_sub.ensures c.if-saturating_sub-le4.true

pub returns : goal.returns
returns c = four_test _ _ c.saturating_sub.ensures c.if-saturating_sub-le4.false c.one_byte.ensures c.one_byte-2.ensures refl c.one_byte-3.ensures c.one_byte-4.ensures refl refl refl
