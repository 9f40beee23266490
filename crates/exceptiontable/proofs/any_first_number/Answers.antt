-- `exceptiontable::any_first_number` meets its contract: a refusal stands at the entry, which is within the table.
-- Assumes nothing.
use native.Mathlib.Omega.{arith}
use Rattle.exceptiontable.specs.Reading.{first_number}
use Rattle.exceptiontable.proofs.Places.{start_placed}
use Rattle.exceptiontable.proofs.any_first_number.Goals as goal

pub taken-requires : goal.taken-requires
taken-requires c = rw c.read_varint_with_start.ensures (start_placed c.args.table.now c.args.at (omega arith))

pub returns : goal.returns
unfolding first_number
returns c =
    let start = c in
    rw (← c.read_varint_with_start.ensures, ← c.at.ensures) c.taken.ensures
