-- `startindex::put_blocks` meets its contract: what is left to store still comes to the same index, and the total is the count so far.
-- Assumes nothing.
use mathlib.Core.Path.{refl}
use native.Mathlib.Omega.{arith}
use Rattle.startindex.proofs.Blocks.{laying_none, laying_before, laying_total, laying_more, laying_all}
use Rattle.startindex.proofs.put_blocks.Goals as goal

pub loop-b-init : goal.loop-b-init
loop-b-init c = laying_none _ _ _ _

pub put_block-total-requires : goal.put_block-total-requires
put_block-total-requires c =
    let start = c.requires in
    let inv = c.loop-b.invariant in
    let within = laying_before _ refl c.loop-b-test.true in
    (omega (arith, inv.same, start), within, laying_total inv within)

pub loop-b-preserved : goal.loop-b-preserved
loop-b-preserved c =
    let told = c.put_block-total.ensures in
    laying_more c.loop-b.invariant c.loop-b-test.true told.0 told.1

pub shape_of-index : goal.shape_of-index
shape_of-index c = c.loop-b.invariant.same

pub returns : goal.returns
returns c = laying_all c.loop-b.invariant c.loop-b-test.false refl
