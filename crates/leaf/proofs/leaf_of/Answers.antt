-- `leaf::leaf_of` meets its contract: the length, the record, and then the leaf.
-- Assumes nothing.
use borrow.Author.Rules.{rules}
use mathlib.Core.Path.{sym, ap, ◌∙◌}
use borrow.Author.Tests.{le-ltb}
use Rattle.grammar.specs.Reading.{gives}
use Rattle.grammar.specs.Leaf as definition
use Rattle.grammar.specs.Record.{sound}
use Rattle.grammar.specs.State.{Node}
use Rattle.soundness.proofs.Soundness.{in_store, sound-node}
use Rattle.leaf.specs.Answers.{told_of}
use Rattle.leaf.proofs.leaf_of.Goals as goal

pub node_at-requires : goal.node_at-requires
node_at-requires c =
    let args = c.args in
    let ok = sym c.sound_at.ensures ∙ c.if-not-sound_at.false in
    in_store args.input.now args.nodes.now args.used args.node ok

pub leaf_as-requires : goal.leaf_as-requires
leaf_as-requires c =
    let args = c.args in
    let ok = sym c.sound_at.ensures ∙ c.if-not-sound_at.false in
    (ap (sound args.input.now) c.node_at.ensures ∙ sound-node args.input.now args.nodes.now args.used args.node ok, search rules)

pub returns : goal.returns
unfolding definition.leaf_of
returns c =
    let input = c.args.input.now in
    rw (le-ltb _ _ c.if-input.false, ← c.sound_at.ensures, c.if-not-sound_at.false)
    (ap gives c.leaf_as.ensures
    ∙ ap (λ (n : Node). gives (told_of (definition.leaf_as input n.letter n.place))) c.node_at.ensures)
