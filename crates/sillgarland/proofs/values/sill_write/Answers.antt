-- `sillgarland::values::sill_write` meets its contract: the writing, handed on as numbers.
-- Assumes nothing.
use Rattle.sillgarland.proofs.Writing.{wrote_handed}
use borrow.Author.Rules.{rules}
use Rattle.sillgarland.proofs.values.sill_write.Goals as goal

pub returns : goal.returns
returns c = search (wrote_handed, rules)
