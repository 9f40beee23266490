-- `sources::long_at` meets its contract: the numbers behind the line step.
-- Assumes nothing.
use Rattle.sources.specs.Source.{long_at}
use Rattle.sources.proofs.long_at.Goals as goal

pub returns : goal.returns
unfolding long_at
returns c = rw (← c.number_at-step.ensures) c.long_from.ensures
