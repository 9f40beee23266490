-- `lineentry::short::long_by` meets its contract by what its callees ensure.
use Rattle.lineentry.specs.Short.{long_by}
use Rattle.lineentry.proofs.short.long_by.Goals as goal

pub returns-in_default : goal.returns-in_default
unfolding long_by
returns-in_default c = rw (← c.signed_step.ensures, ← c.move_line.ensures, c.in_default.is)

pub returns-in_default-move_line : goal.returns-in_default-move_line
unfolding long_by
returns-in_default-move_line c = rw (← c.signed_step.ensures, ← c.move_line.ensures, c.in-Some.is, ← c.as_signed.ensures, ← c.move_line-2.ensures, c.in_default-move_line.is)

pub returns : goal.returns
unfolding long_by
returns c = rw (c.show_column-2.ensures, c.show_line-2.ensures, c.show_column.ensures, c.show_line.ensures, ← c.signed_step.ensures, ← c.move_line.ensures, c.in-Some.is, ← c.as_signed.ensures, ← c.move_line-2.ensures, c.in-Some-move_line.is)
