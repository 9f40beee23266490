-- `lineentry::long_columns` meets its contract by what its callees ensure.
use Rattle.lineentry.specs.Entry.{long_columns}
use Rattle.lineentry.proofs.long_columns.Goals as goal

pub returns-in_default : goal.returns-in_default
unfolding long_columns
returns-in_default c = rw (← c.lt_read_varint.ensures, c.in_default.is)

pub returns-in_default-lt_read_varint : goal.returns-in_default-lt_read_varint
unfolding long_columns
returns-in_default-lt_read_varint c = rw (← c.lt_read_varint.ensures, c.in-Some.is, ← c.lt_read_varint-2.ensures, c.in_default-lt_read_varint.is)

pub returns : goal.returns
unfolding long_columns
returns c = rw (c.show_column-2.ensures, c.show_line-2.ensures, c.show_column.ensures, c.show_line.ensures, ← c.lt_read_varint.ensures, c.in-Some.is, ← c.lt_read_varint-2.ensures, c.in-Some-lt_read_varint.is)
