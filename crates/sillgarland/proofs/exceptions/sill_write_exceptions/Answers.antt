-- `sillgarland::exceptions::sill_write_exceptions` meets its contract: the answer of `exceptiontable::encode_exception_table`, handed on as numbers.
-- Assumes nothing.
use Rattle.sillgarland.specs.Varints.{written_struct}
use Rattle.sillgarland.proofs.Handing.{handed}
use Rattle.sillgarland.proofs.exceptions.sill_write_exceptions.Goals as goal

pub returns : goal.returns
returns c = handed written_struct c.from.ensures c.encode_exception_table.ensures
