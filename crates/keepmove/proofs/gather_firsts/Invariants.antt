-- `gather_firsts` meets its contract by the laws cited here. Assumes nothing.
use Rattle.keepmove.proofs.Containers.{Firsts}
use Rattle.keepmove.proofs.gather_firsts.Given as goal

abbrev pub invariant-loop-i : goal.invariant-loop-i
invariant-loop-i l = Firsts l.nodes l.order l.i l.at l.out
