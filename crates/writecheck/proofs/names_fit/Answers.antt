-- The letter, then the children. Assumes nothing.
use Rattle.writecheck.proofs.Suited.{no_tuple, a_tuple}
use Rattle.writecheck.specs.Looking.{lent_of}
use Rattle.grammar.specs.State.{Node}
use mathlib.Core.Path.{ap}
use Rattle.writecheck.proofs.names_fit.Goals as goal

pub returns-then-not-is_tuple : goal.returns-then-not-is_tuple
returns-then-not-is_tuple c =
    no_tuple (lent_of c.args.values.now.lent) c.args.node (ap (λ (m : Node). m.letter) c.node_of-n.ensures) c.is_tuple.ensures c.if-not-is_tuple.true

pub returns : goal.returns
returns c =
    let a = c.args in
    let t = lent_of a.values.now.lent in
    a_tuple t a.node (ap (λ (m : Node). m.letter) c.node_of-n.ensures) c.is_tuple.ensures c.if-not-is_tuple.false (ap (λ (m : Node). m.first) c.node_of-n.ensures) (ap (λ (m : Node). m.count) c.node_of-n.ensures) c.named.ensures
