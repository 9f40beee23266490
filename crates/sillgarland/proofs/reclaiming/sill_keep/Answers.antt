-- `sillgarland::reclaiming::sill_keep` meets its contract: the move, handed on as numbers.
-- Assumes nothing.
use Rattle.sillgarland.proofs.Keeping.{kept_handed}
use borrow.Author.Rules.{rules}
use Rattle.sillgarland.proofs.reclaiming.sill_keep.Goals as goal

pub returns : goal.returns
returns c = search (kept_handed, rules)
