-- `none_rises` meets its contract by the laws cited here. Assumes nothing.
use Rattle.keepmove.specs.Down.{NoneRises}
use Rattle.keepmove.proofs.none_rises.Given as goal

abbrev pub invariant-loop-i : goal.invariant-loop-i
invariant-loop-i l = NoneRises l.i l.order
