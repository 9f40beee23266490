-- `raising::raise_nodes` meets its contract: one turn and the end by the laws of Turns. Assumes nothing.
use Rattle.raising.proofs.Turns.{Nodes}
use Rattle.raising.proofs.raise_nodes.Given as goal

abbrev pub invariant-loop-i : goal.invariant-loop-i
invariant-loop-i l = Nodes l.initial.nodes l.count l.kept l.number l.i l.nodes
