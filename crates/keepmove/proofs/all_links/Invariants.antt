-- `all_links` meets its contract by the laws cited here. Assumes nothing.
use Rattle.keepmove.proofs.Containers.{AllLinks}
use Rattle.keepmove.proofs.all_links.Given as goal

abbrev pub invariant-loop-i : goal.invariant-loop-i
invariant-loop-i l = AllLinks l.nodes l.order l.initial.out l.i l.number l.out
