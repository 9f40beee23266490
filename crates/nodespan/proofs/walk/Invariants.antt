-- Carried by `Walking`: what is left of the chain still comes to the same. Assumes nothing.
use Rattle.nodespan.specs.Walk.{bounded}
use Rattle.nodespan.proofs.Walks.{Walking}
use Rattle.nodespan.proofs.walk.Given as goal

abbrev pub invariant-loop-i : goal.invariant-loop-i
invariant-loop-i l = Walking (bounded l.nodes l.entries l.b) l.count l.first l.all l.i l.e
