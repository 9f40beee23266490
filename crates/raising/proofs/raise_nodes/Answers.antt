-- `raising::raise_nodes` meets its contract: one turn and the end by the laws of Turns. Assumes nothing.
use Rattle.std.proofs.Common.{rules}
use Rattle.raising.proofs.Turns.{nodes_start, nodes-turn, nodes-done}
use Rattle.raising.proofs.raise_nodes.Goals as goal

pub loop-i-init : goal.loop-i-init
loop-i-init c = search (nodes_start, rules)

pub loop-i-preserved : goal.loop-i-preserved
loop-i-preserved c = search (nodes-turn, rules)

pub returns : goal.returns
returns c = search (nodes-done, rules)
