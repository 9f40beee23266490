-- `linetable::fill_locations` meets its contract: a turn stores the location before those that are stored, and when none is left all
-- of them are stored.
use Rattle.std.proofs.Common.{length, arith}
use Rattle.linetable.proofs.Readback.{filled_none, filled_more, filled_done}
use Rattle.linetable.proofs.fill_locations.Goals as goal

pub loop-i-init : goal.loop-i-init
loop-i-init c = (omega arith, filled_none c.args.flat.now c.args.out.now)

pub loop-i-preserved : goal.loop-i-preserved
loop-i-preserved c =
    (omega arith, filled_more c.args.flat.now c.loop-i.i (length c.args.out.now) c.args.out.now c.loop-i-test.true c.loop-i.invariant.0 c.loop-i.invariant.1 c.location_at.ensures)

pub returns : goal.returns
returns c = filled_done c.args.flat.now c.loop-i.i c.args.out.now (omega arith) c.loop-i.invariant.1
