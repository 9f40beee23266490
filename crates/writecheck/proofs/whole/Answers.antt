-- The node's own record, then its chain. Assumes nothing.
use Rattle.chains.proofs.Chains.{whole_not, whole_is}
use Rattle.writecheck.specs.Looking.{lent_of}
use Rattle.grammar.specs.State.{Node}
use mathlib.Core.Path.{ap}
use Rattle.writecheck.proofs.whole.Goals as goal

pub returns-then-not-sound_at : goal.returns-then-not-sound_at
returns-then-not-sound_at c = whole_not (lent_of c.args.values.now.lent) c.args.node c.sound_at.ensures c.if-not-sound_at.true

pub returns : goal.returns
returns c =
    let a = c.args in
    let t = lent_of a.values.now.lent in
    whole_is t a.node c.node_of-n.result.count c.node_of-n.result.first c.sound_at.ensures c.if-not-sound_at.false (ap (λ (m : Node). m.count) c.node_of-n.ensures) (ap (λ (m : Node). m.first) c.node_of-n.ensures) c.linked.ensures
