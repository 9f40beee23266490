-- `lineentry::at_line` meets its contract by what `show_line` ensures.
use Rattle.lineentry.proofs.at_line.Goals as goal

pub returns : goal.returns
returns c = rw c.show_line-l.ensures
