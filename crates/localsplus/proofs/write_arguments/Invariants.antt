-- `localsplus::write_arguments` meets its contract: the laws of a walk carry the loop, one turn of the list each arm.
-- Assumes nothing.
use lib.ListN.{length, drop}
use Rattle.localsplus.specs.Lists.{cell_args_from}
use Rattle.localsplus.proofs.Walk.{Walk}
use Rattle.localsplus.proofs.write_arguments.Given as goal

abbrev pub invariant-loop-i : goal.invariant-loop-i
invariant-loop-i l =
    Walk (cell_args_from l.sum 0 l.kinds) l.kinds (length l.initial.out) l.out l.n l.i (cell_args_from l.sum l.i (drop l.i l.kinds))
