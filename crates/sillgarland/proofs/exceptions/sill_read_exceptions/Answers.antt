-- `sillgarland::exceptions::sill_read_exceptions` meets its contract: the answer of `exceptiontable::decode_exception_table`, handed on as numbers.
-- Assumes nothing.
use Rattle.sillgarland.specs.Exceptions.{decoded_struct}
use Rattle.sillgarland.proofs.Handing.{handed}
use Rattle.sillgarland.proofs.exceptions.sill_read_exceptions.Goals as goal

pub returns : goal.returns
returns c = handed decoded_struct c.from.ensures c.decode_exception_table.ensures
