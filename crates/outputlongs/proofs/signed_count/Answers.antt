-- By the sign. Assumes nothing.
use mathlib.Core.Path.{refl}
use native.Mathlib.Omega.{arith}
use Rattle.outputlongs.proofs.signed_count.Goals as goal

pub returns-then-negative : goal.returns-then-negative
returns-then-negative c = rw c.if-negative.true (omega arith)

pub returns : goal.returns
returns c = rw c.if-negative.false refl
