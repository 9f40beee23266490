-- `sources::read_long_source` meets its contract by the numbers that it reads. Assumes nothing.
use Rattle.sources.specs.Source.{long_source}
use Rattle.sources.proofs.read_long_source.Goals as goal

pub returns : goal.returns
unfolding long_source
returns c = rw (← c.long_at.ensures) c.by_numbers.ensures
