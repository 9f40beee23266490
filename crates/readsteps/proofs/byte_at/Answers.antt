-- `byte_at` reads a byte, which is below 256.
-- Assumes nothing.
use mathlib.Core.Path.{refl}
use native.Mathlib.Omega.{arith}
use Rattle.readsteps.proofs.byte_at.Goals as goal

pub overflow_cast-result-2 : goal.overflow_cast-result-2
overflow_cast-result-2 c = omega (arith, c.type_inv.s c.args.at)

pub returns : goal.returns
returns c = (refl, (c.type_inv.s c.args.at).fits)
