-- `starts::count_before` meets its contract: the running total, the whole words behind it, and the low bits of the last. Assumes nothing.
use mathlib.Core.Path.{refl}
use Rattle.starts.proofs.Answers.{summed}
use Rattle.starts.proofs.count_before.Goals as goal

pub returns : goal.returns
returns c = summed _ _ c.sum_ones-sum.ensures.0 c.low_bits.ensures c.ones_of-last.ensures.0 refl
