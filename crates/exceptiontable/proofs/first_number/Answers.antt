-- `exceptiontable::first_number` meets its contract: a number of one byte by itself, and any other as it is read there.
-- Assumes nothing.
use Rattle.exceptiontable.proofs.OneByte.{first_one_byte}
use Rattle.exceptiontable.proofs.first_number.Goals as goal

pub returns-then-byte-eq2 : goal.returns-then-byte-eq2
returns-then-byte-eq2 c = first_one_byte _ _ c.if-at-table.true c.if-byte-eq2.true
