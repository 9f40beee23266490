-- `fields::argument_sum` meets its contract: the sum of the three numbers that were read.
-- Assumes nothing.
use Rattle.fields.proofs.argument_sum.Goals as goal

pub returns : goal.returns
returns c = rw (c.le32-arguments.ensures, c.le32-keyword_only.ensures, c.le32-flags.ensures)
