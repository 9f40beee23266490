-- `join::entry_line` meets its contract: the line of the entry that is read. Assumes nothing.
use mathlib.Core.Path.{sym, ap, ◌∙◌}
use Rattle.join.specs.Whole.{entry_line}
use Rattle.join.proofs.entry_line.Goals as goal

pub returns-in-Covers : goal.returns-in-Covers
returns-in-Covers c = ap (entry_line _) (sym (sym c.read_entry.ensures ∙ c.in-Covers.is))

pub returns-in-Stop : goal.returns-in-Stop
returns-in-Stop c = ap (entry_line _) (sym (sym c.read_entry.ensures ∙ c.in-Stop.is))

pub returns-in-OutOfRange : goal.returns-in-OutOfRange
returns-in-OutOfRange c = ap (entry_line _) (sym (sym c.read_entry.ensures ∙ c.in-OutOfRange.is))
