-- Three parts' numbers, compared. Assumes nothing.
use Rattle.writecheck.proofs.Codes.{ends_not, ends_so}
use Rattle.grammar.specs.State.{Node}
use native.Mathlib.Omega.{arith}
use mathlib.Core.Path.{ap}
use Rattle.writecheck.proofs.ends_fit.Goals as goal

pub returns-then-locals-kinds : goal.returns-then-locals-kinds
returns-then-locals-kinds c =
    ends_not c.args.lent.now.nodes.now c.part_at.ensures c.part_at-2.ensures c.part_at-3.ensures (ap (λ (m : Node). m.count) c.node_of-locals.ensures) (ap (λ (m : Node). m.size) c.node_of-kinds.ensures) (λ e. omega arith)

pub returns : goal.returns
returns c =
    ends_so c.args.lent.now.nodes.now c.part_at.ensures c.part_at-2.ensures c.part_at-3.ensures (ap (λ (m : Node). m.size) c.node_of-code.ensures) (ap (λ (m : Node). m.count) c.node_of-locals.ensures) (ap (λ (m : Node). m.size) c.node_of-kinds.ensures) (omega arith)
