-- `exceptiontable::any_later_number` meets its contract: a refusal stands where a number was begun, within the table.
-- Assumes nothing.
use Rattle.exceptiontable.specs.Reading.{later_number}
use Rattle.exceptiontable.proofs.Places.{later_placed}
use Rattle.exceptiontable.proofs.any_later_number.Goals as goal

pub taken-requires : goal.taken-requires
taken-requires c = rw c.read_varint.ensures (later_placed c.args.table.now c.args.at c.requires)

pub returns : goal.returns
unfolding later_number
returns c =
    let start = c in
    rw (← c.read_varint.ensures, ← c.at.ensures) c.taken.ensures
