-- `soundness::sound_at` meets its contract: the number, then the node.
-- Assumes nothing.
use mathlib.Core.Path.{ap, ◌∙◌}
use borrow.Author.Tests.{lt-ltb, le-ltb}
use Rattle.grammar.specs.Record as definition
use Rattle.soundness.proofs.sound_at.Goals as goal

pub returns-then-nodes_in-node : goal.returns-then-nodes_in-node
unfolding definition.sound_at
returns-then-nodes_in-node c = rw (← c.nodes_in.ensures, le-ltb _ _ c.if-nodes_in-node.true)

pub returns : goal.returns
unfolding definition.sound_at
returns c =
    let a = c.args in
    rw (← c.nodes_in.ensures, lt-ltb _ _ c.if-nodes_in-node.false)
    (c.sound.ensures ∙ ap (definition.sound a.s.now) c.node_at.ensures)
