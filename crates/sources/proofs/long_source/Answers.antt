-- `sources::long_source` meets its contract: a location that shows no 1 tells the byte, and else the numbers are read.
-- Assumes nothing.
use mathlib.Core.Path.{sym, ◌∙◌}
use Rattle.sources.specs.Source.{long_source}
use Rattle.sources.proofs.Long.{long-known}
use Rattle.sources.proofs.long_source.Goals as goal

pub returns-then-above_one : goal.returns-then-above_one
unfolding long_source
returns-then-above_one c = c.sum_of.ensures ∙ long-known _ _ _ c.args.missing c.requires (sym c.above_one.ensures ∙ c.if-above_one.true)
