-- `gather_kids` meets its contract by the laws cited here. Assumes nothing.
use Prim.Native.Nat.{◌+◌, ◌-◌}
use Rattle.keepmove.proofs.Gathering.{Kids}
use Rattle.keepmove.proofs.gather_kids.Given as goal

abbrev pub invariant-loop-at : goal.invariant-loop-at
invariant-loop-at l = Kids l.entries l.visited l.bound l.kept l.from l.count l.first l.initial.out (l.from + l.count - l.at) l.e l.at l.out
