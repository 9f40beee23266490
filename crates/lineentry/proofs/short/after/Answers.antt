-- `lineentry::short::after` meets its contract: one place further, or two.
use mathlib.Core.Path.{refl}
use native.Mathlib.Omega.{arith}
use Rattle.lineentry.proofs.short.after.Goals as goal

pub returns-then-one : goal.returns-then-one
returns-then-one c = (rw c.if-one.true refl, omega arith)

pub returns-else-one : goal.returns-else-one
returns-else-one c = (rw c.if-one.false refl, omega arith)
