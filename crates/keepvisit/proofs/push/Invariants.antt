-- `push` meets its contract by the laws cited here. Assumes nothing.
use Prim.Native.Nat.{◌+◌, ◌-◌}
use Rattle.keepvisit.proofs.Pushing.{Pushing}
use Rattle.keepvisit.proofs.push.Given as goal

abbrev pub invariant-loop-at : goal.invariant-loop-at
invariant-loop-at l = Pushing l.entries l.from l.count l.first l.initial.s (l.from + l.count - l.at) l.e l.at l.s
