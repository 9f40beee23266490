-- `visit` meets its contract by the laws cited here.
use Prim.Native.Nat.{◌+◌, ◌-◌}
use lib.ListN.{length}
use Rattle.keepvisit.specs.Visit.{stores}
use Rattle.keepvisit.proofs.Visiting.{Searching}
use Rattle.keepvisit.proofs.visit.Given as goal

abbrev pub invariant-loop-top : goal.invariant-loop-top
invariant-loop-top l = Searching (stores l.nodes l.entries l.bound l.limit) l.root (length l.initial.s) l.s l.kept l.moved l.top

abbrev pub decreases-loop-top : goal.decreases-loop-top
decreases-loop-top l = l.limit + length l.s - (l.moved + l.top)
