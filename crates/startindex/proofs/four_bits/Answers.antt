-- `startindex::four_bits` meets its contract: four bits, the first lowest. Assumes nothing.
use native.Mathlib.Omega.{arith}
use Rattle.startindex.proofs.Words.{word_of_four}
use Rattle.startindex.proofs.four_bits.Goals as goal

pub returns : goal.returns
returns c = (word_of_four _ _ c.later_bit-a.ensures.0 c.later_bit-b.ensures.0 c.later_bit-c.ensures.0 c.later_bit-d.ensures.0, omega (arith, c.later_bit-a.ensures.1, c.later_bit-b.ensures.1, c.later_bit-c.ensures.1, c.later_bit-d.ensures.1))
