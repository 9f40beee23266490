-- `sources::above_after` meets its contract: the step as signed, the line after it, and its test.
-- Assumes nothing.
use Rattle.sources.proofs.above_after.Goals as goal

pub returns-in-None : goal.returns-in-None
returns-in-None c = rw (← c.as_signed.ensures, ← c.move_line.ensures, c.in-None.is)

pub returns-in-Some : goal.returns-in-Some
returns-in-Some c = rw (← c.as_signed.ensures, ← c.move_line.ensures, c.in-Some.is) c.is_above.ensures
