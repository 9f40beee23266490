-- `sillgarland::reclaiming::sill_read_more` meets its contract: the append, handed on as numbers.
-- Assumes nothing.
use Rattle.sillgarland.proofs.Reading.{read_handed}
use Rattle.sillgarland.proofs.reclaiming.sill_read_more.Goals as goal

pub returns : goal.returns
returns c = read_handed c.from.ensures c.read_more-answer.ensures
