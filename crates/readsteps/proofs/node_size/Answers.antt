-- `node_size` is the definition's size by the kind of the children.
-- Assumes nothing.
use mathlib.Core.Path.{refl}
use native.Mathlib.Omega.{arith}
use Rattle.readsteps.proofs.node_size.Goals as goal

pub returns-then-line-place : goal.returns-then-line-place
returns-then-line-place c = rw c.in-Parts.is (omega arith)

pub returns-else-line-place : goal.returns-else-line-place
returns-else-line-place c = rw c.in-Parts.is refl
