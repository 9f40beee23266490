-- `lineentry::no_columns` meets its contract by what its callees ensure.
use Rattle.lineentry.specs.Entry.{no_columns}
use Rattle.lineentry.proofs.no_columns.Goals as goal

pub returns-in_default : goal.returns-in_default
unfolding no_columns
returns-in_default c = rw (← c.lt_read_signed_varint.ensures, c.in_default.is)

pub returns-in_default-move_line : goal.returns-in_default-move_line
unfolding no_columns
returns-in_default-move_line c = rw (← c.lt_read_signed_varint.ensures, c.in-Some.is, ← c.move_line.ensures, c.in_default-move_line.is)

pub returns : goal.returns
unfolding no_columns
returns c = rw (c.at_line.ensures, ← c.lt_read_signed_varint.ensures, c.in-Some.is, ← c.move_line.ensures, c.in-Some-move_line.is)
