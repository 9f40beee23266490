-- `sillgarland::locals::sill_split` meets its contract: the split, handed on as numbers.
-- Assumes nothing.
use Rattle.sillgarland.proofs.Splitting.{split_handed}
use borrow.Author.Rules.{rules}
use Rattle.sillgarland.proofs.locals.sill_split.Goals as goal

pub returns : goal.returns
returns c = search (split_handed, rules)
