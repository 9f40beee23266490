-- `lineentry::short::upper` meets its contract.
use mathlib.Core.Path.{refl}
use native.Mathlib.Omega.{arith}
use Rattle.lineentry.proofs.short.upper.Goals as goal

pub returns-else-one : goal.returns-else-one
returns-else-one c = (rw c.if-one.false refl, omega arith)
