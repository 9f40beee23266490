-- Carried by `Counting`: what is counted, and what is left to count. Assumes nothing.
use Rattle.nodespan.specs.Walk.{among}
use Rattle.nodespan.proofs.Walks.{Counting}
use Rattle.nodespan.proofs.flagged_before.Given as goal

abbrev pub invariant-loop-node : goal.invariant-loop-node
invariant-loop-node l = Counting (among l.s l.nodes) l.b.source l.b.start l.b.many l.slots l.node
