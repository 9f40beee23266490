-- `below` is the allowance of a node's children, by their kind.
-- Assumes nothing.
use mathlib.Core.Path.{refl, ap}
use native.Mathlib.Omega.{arith}
use Rattle.fields.specs.Behind.{children_of}
use Rattle.readsteps.proofs.below.Goals as goal

pub overflow_sub-result : goal.overflow_sub-result
overflow_sub-result c = omega (arith, c.requires (ap children_of c.in-Parts.is))

pub returns-in-Parts : goal.returns-in-Parts
returns-in-Parts c = rw c.in-Parts.is refl
