-- `lineentry::lt_read_signed_varint` meets its contract: the varint that was read, its value as a step.
use Rattle.lineentry.specs.Varint.{signed_at}
use Rattle.lineentry.proofs.lt_read_signed_varint.Goals as goal

pub returns-in_err-read : goal.returns-in_err-read
unfolding signed_at
returns-in_err-read c = rw (c.from_residual.ensures, ← c.lt_read_varint.ensures, c.in_err-read.was)

pub returns : goal.returns
unfolding signed_at
returns c = rw (c.signed_step.ensures, ← c.lt_read_varint.ensures, c.in_ok-read.was)
