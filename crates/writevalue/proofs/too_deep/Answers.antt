-- By the allowance, then the letter. Assumes nothing.
use Rattle.writevalue.proofs.Opening.{levels_none, levels_more, levels-past, levels-code}
use Rattle.grammar.specs.State.{Node}
use native.Mathlib.Omega.{arith}
use mathlib.Core.Path.{ap}
use Rattle.writevalue.proofs.too_deep.Goals as goal

pub returns-then-allowance-eq0 : goal.returns-then-allowance-eq0
returns-then-allowance-eq0 c = levels_none c.args.lent.now.nodes.now c.args.lent.now.used.nodes c.args.allowance c.args.node (omega arith)

pub returns-then-allowance-ne1 : goal.returns-then-allowance-ne1
returns-then-allowance-ne1 c = levels_more c.args.lent.now.nodes.now c.args.lent.now.used.nodes c.args.allowance c.args.node (λ e. omega arith) (λ e. omega arith)

pub returns-then-nodes_in-node : goal.returns-then-nodes_in-node
returns-then-nodes_in-node c = levels-past c.args.lent.now.nodes.now c.args.lent.now.used.nodes c.args.allowance c.args.node (omega arith) c.nodes_in.ensures (omega arith)

pub returns : goal.returns
returns c =
    levels-code c.args.lent.now.nodes.now c.args.lent.now.used.nodes c.args.allowance c.args.node (omega arith) c.nodes_in.ensures (omega arith) (ap (λ (m : Node). m.letter) c.node_of-n.ensures)
