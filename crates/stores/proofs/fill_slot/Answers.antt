-- `fill_slot` fills the slot where there is a flag; the law of `fill` carries it.
-- Assumes nothing.
use Rattle.stores.proofs.Records.{fill-some}
use borrow.Author.Rules.{rules}
use Rattle.stores.proofs.fill_slot.Goals as goal

pub returns-then-flag-ne0 : goal.returns-then-flag-ne0
returns-then-flag-ne0 c = search (fill-some, rules)
