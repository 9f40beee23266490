-- `startindex::ones_of` meets its contract: a word of 64 digits has at most 64 of them set. Assumes nothing.
use mathlib.Core.Path.{refl}
use native.Mathlib.Nat.{lt_of_le_of_lt}
use lib.Dec.{lit<}
use lib.Count.{ones-le}
use Rattle.startindex.proofs.ones_of.Goals as goal

pub overflow_cast-result : goal.overflow_cast-result
overflow_cast-result c = record { fits = lt_of_le_of_lt (ones-le 64 _ c.ranges.word.fits) (lit< tt) }

pub returns : goal.returns
returns c = (refl, ones-le 64 _ c.ranges.word.fits)
