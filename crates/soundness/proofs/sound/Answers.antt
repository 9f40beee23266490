-- `soundness::sound` meets its contract: the span, then the rules of the letter's class.
-- Assumes nothing.
use mathlib.Core.Path.{ap, ◌∙◌}
use borrow.Author.Tests.{lt-leb, le-leb}
use Rattle.grammar.specs.Record as definition
use Rattle.stores.specs.Written.{node_of}
use Rattle.soundness.proofs.sound.Goals as goal

pub returns-then-s-node : goal.returns-then-s-node
unfolding definition.sound
returns-then-s-node c = rw (lt-leb _ _ c.if-s-node.true)

pub returns : goal.returns
unfolding definition.sound
returns c =
    let a = c.args in
    rw (le-leb _ _ c.if-s-node.false)
    (c.ruled.ensures ∙ ap (definition.ruled a.s.now (node_of a.node)) c.class_of.ensures)
