-- Carried by `Asking`: what is left of the question still comes to the same. Assumes nothing.
use Rattle.nodespan.specs.Walk.{bounded}
use Rattle.nodespan.proofs.Walks.{Asking}
use Rattle.nodespan.proofs.closed.Given as goal

abbrev pub invariant-loop-node : goal.invariant-loop-node
invariant-loop-node l = Asking (bounded l.nodes l.entries l.b) l.b.many l.b.room l.all l.steps l.node
