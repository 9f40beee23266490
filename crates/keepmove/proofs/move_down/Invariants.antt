-- `move_down` meets its contract by the laws cited here. Assumes nothing.
use lib.ListN.{length}
use Rattle.keepmove.proofs.Descending.{Down}
use Rattle.keepmove.proofs.move_down.Given as goal

abbrev pub invariant-loop-i : goal.invariant-loop-i
invariant-loop-i l = Down l.initial.nodes l.order (length l.order) l.i l.at l.nodes
