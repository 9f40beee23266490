-- `sources::number_at` meets its contract: the varint, or 0 where it is too long.
-- Assumes nothing.
use Rattle.sources.specs.Source.{number_at}
use Rattle.sources.proofs.number_at.Goals as goal

pub returns-in-None : goal.returns-in-None
unfolding number_at
returns-in-None c = rw (← c.lt_read_varint.ensures, c.in-None.is)

pub returns-in-Some : goal.returns-in-Some
unfolding number_at
returns-in-Some c = rw (← c.lt_read_varint.ensures, c.in-Some.is)
