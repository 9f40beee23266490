-- `leaf::not_a_number` meets its contract: zero by zero is the NaN.
-- Assumes nothing.
use mathlib.Core.Path.{refl}
use lib.Ieee.{div, of_bits, of_fields}
use Rattle.leaf.proofs.not_a_number.Goals as goal

pub returns : goal.returns
unfolding div of_bits of_fields
returns c = refl
