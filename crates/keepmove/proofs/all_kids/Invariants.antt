-- `all_kids` meets its contract by the laws cited here. Assumes nothing.
use lib.ListN.{take}
use Rattle.keepmove.proofs.Containers.{AllKids}
use Rattle.keepmove.proofs.all_kids.Given as goal

abbrev pub invariant-loop-i : goal.invariant-loop-i
invariant-loop-i l = AllKids l.nodes l.entries l.visited (take l.kept l.visited) l.bound l.kept l.initial.out l.i l.at l.out
