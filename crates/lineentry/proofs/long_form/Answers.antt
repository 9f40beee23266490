-- `lineentry::long_form` meets its contract by what its callees ensure.
use Rattle.lineentry.specs.Entry.{long_form}
use Rattle.lineentry.proofs.long_form.Goals as goal

pub returns-in_default : goal.returns-in_default
unfolding long_form
returns-in_default c = rw (← c.lt_read_signed_varint.ensures, c.in_default.is)

pub returns-in_default-lt_read_varint : goal.returns-in_default-lt_read_varint
unfolding long_form
returns-in_default-lt_read_varint c = rw (← c.lt_read_signed_varint.ensures, c.in-Some.is, ← c.lt_read_varint.ensures, c.in_default-lt_read_varint.is)

pub returns-in_default-move_line : goal.returns-in_default-move_line
unfolding long_form
returns-in_default-move_line c = rw (← c.lt_read_signed_varint.ensures, c.in-Some.is, ← c.lt_read_varint.ensures, c.in-Some-lt_read_varint.is, ← c.move_line.ensures, c.in_default-move_line.is)

pub returns-in_default-move_line-2 : goal.returns-in_default-move_line-2
unfolding long_form
returns-in_default-move_line-2 c = rw (← c.lt_read_signed_varint.ensures, c.in-Some.is, ← c.lt_read_varint.ensures, c.in-Some-lt_read_varint.is, ← c.move_line.ensures, c.in-Some-move_line.is, ← c.as_signed.ensures, ← c.move_line-2.ensures, c.in_default-move_line-2.is)

pub returns : goal.returns
unfolding long_form
returns c = rw (← c.lt_read_signed_varint.ensures, c.in-Some.is, ← c.lt_read_varint.ensures, c.in-Some-lt_read_varint.is, ← c.move_line.ensures, c.in-Some-move_line.is, ← c.as_signed.ensures, ← c.move_line-2.ensures, c.in-Some-move_line-2.is) c.long_columns.ensures
