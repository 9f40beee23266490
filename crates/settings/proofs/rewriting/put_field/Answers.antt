-- `settings::rewriting::put_field` meets its contract, by the laws of this crate that it names.
-- Assumes nothing.
use Prim.Native.Nat.{◌+◌, ◌-◌}
use native.Mathlib.Omega.{arith}
use Rattle.settings.proofs.Puts.{puts-field}
use Rattle.settings.proofs.rewriting.put_field.Goals as goal

pub returns : goal.returns
returns c = puts-field c.args.s.now c.args.at (c.args.at + 3 + c.size_at.result - c.args.at) (omega (arith, c.size_at.ensures.0)) c.put.ensures
