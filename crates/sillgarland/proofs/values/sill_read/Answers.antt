-- `sillgarland::values::sill_read` meets its contract: the reading, handed on as numbers.
-- Assumes nothing.
use Rattle.sillgarland.proofs.Reading.{read_handed}
use Rattle.sillgarland.proofs.values.sill_read.Goals as goal

pub returns : goal.returns
returns c = read_handed c.from.ensures c.deserialize_value.ensures
