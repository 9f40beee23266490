-- `exceptiontable::later_number` meets its contract: a number of one byte by itself, and any other as it is read there.
-- Assumes nothing.
use Rattle.exceptiontable.proofs.OneByte.{later_one_byte}
use Rattle.exceptiontable.proofs.later_number.Goals as goal

pub returns-then-byte-eq0 : goal.returns-then-byte-eq0
returns-then-byte-eq0 c = later_one_byte _ _ c.if-at-table.true c.if-byte-eq0.true
