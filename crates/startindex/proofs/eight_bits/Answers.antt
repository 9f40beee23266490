-- `startindex::eight_bits` meets its contract: four bits and four more. Assumes nothing.
use native.Mathlib.Omega.{arith}
use Rattle.startindex.proofs.Words.{word_of-eight}
use Rattle.startindex.proofs.eight_bits.Goals as goal

pub returns : goal.returns
returns c = (word_of-eight _ _ c.four_bits-low.ensures.0 c.four_bits-high.ensures.0, omega (arith, c.four_bits-low.ensures.1, c.four_bits-high.ensures.1))
