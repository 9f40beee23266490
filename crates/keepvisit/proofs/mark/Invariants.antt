-- `mark` meets its contract by the laws cited here. Assumes nothing.
use Prim.Native.Nat.{◌-◌}
use Rattle.keepvisit.proofs.Marking.{Walking}
use Rattle.keepvisit.proofs.mark.Given as goal

abbrev pub invariant-loop-i : goal.invariant-loop-i
invariant-loop-i l = Walking l.entries l.base l.limit l.count l.first l.initial.s (l.count - l.i) l.e l.s
