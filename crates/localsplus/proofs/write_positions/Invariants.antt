-- `localsplus::write_positions` meets its contract: the laws of a walk carry the loop, one turn of the positions each arm.
-- Assumes nothing.
use lib.ListN.{length, drop}
use Rattle.localsplus.specs.Lists.{positions_from, positions}
use Rattle.localsplus.proofs.Walk.{Walk}
use Rattle.localsplus.proofs.write_positions.Given as goal

abbrev pub invariant-loop-i : goal.invariant-loop-i
invariant-loop-i l =
    Walk (positions l.bit l.kinds) l.kinds (length l.initial.out) l.out l.n l.i (positions_from l.bit l.i (drop l.i l.kinds))
