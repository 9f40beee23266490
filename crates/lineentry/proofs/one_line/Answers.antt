-- `lineentry::one_line` meets its contract by what its callees ensure.
use Rattle.lineentry.specs.Entry.{one_line}
use Rattle.lineentry.proofs.one_line.Goals as goal

pub returns-in_default : goal.returns-in_default
unfolding one_line
returns-in_default c = rw (← c.move_line.ensures, c.in_default.is)

pub returns : goal.returns
unfolding one_line
returns c = rw (c.show_line-l.ensures, c.lt_byte-end_column.ensures, c.lt_byte-column.ensures, ← c.move_line.ensures, c.in-Some.is)
