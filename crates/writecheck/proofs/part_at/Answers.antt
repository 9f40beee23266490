-- Carried by `Reaching`: what is left of the way leads to the same entry. Assumes nothing.
use Rattle.writecheck.proofs.Codes.{reaching_none, reaching_more, reaching_end}
use native.Mathlib.Omega.{arith}
use Rattle.writecheck.proofs.part_at.Goals as goal

pub loop-init : goal.loop-init
loop-init c = reaching_none _ _ _

pub loop-preserved : goal.loop-preserved
loop-preserved c = reaching_more c.loop.invariant c.loop-test.true c.next_of-e.ensures

pub returns : goal.returns
returns c = reaching_end c.loop.invariant (omega arith) c.child_of.ensures
