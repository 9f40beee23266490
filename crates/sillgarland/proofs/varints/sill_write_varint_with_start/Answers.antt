-- `sillgarland::varints::sill_write_varint_with_start` meets its contract: the answer of `varint::write_varint_with_start`, handed on as numbers.
-- Assumes nothing.
use Rattle.sillgarland.specs.Varints.{written_struct}
use Rattle.sillgarland.proofs.Handing.{handed}
use Rattle.sillgarland.proofs.varints.sill_write_varint_with_start.Goals as goal

pub returns : goal.returns
returns c = handed written_struct c.from.ensures c.write_varint_with_start.ensures
