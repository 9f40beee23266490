-- `gather_column` meets its contract by the laws cited here. Assumes nothing.
use Rattle.keepmove.proofs.Gathering.{Column}
use Rattle.keepmove.proofs.gather_column.Given as goal

abbrev pub invariant-loop-i : goal.invariant-loop-i
invariant-loop-i l = Column l.nodes l.order l.column l.i l.out
