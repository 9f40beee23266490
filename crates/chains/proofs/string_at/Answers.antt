-- The number, then the letter, then the record test of a string. Assumes nothing.
use Rattle.chains.proofs.Told.{and-false, and-true}
use Rattle.grammar.specs.State.{Node, node_at}
use Rattle.grammar.specs.Record.{sound, sound_at}
use Rattle.grammar.specs.Letters.{is_string}
use borrow.Author.Tests.{lt-ltb, le-ltb}
use mathlib.Core.Bool.{◌&&◌}
use mathlib.Core.Path.{ap, sym, ◌∙◌}
use Rattle.chains.proofs.string_at.Goals as goal

pub returns-then-nodes_in-node : goal.returns-then-nodes_in-node
unfolding sound_at
returns-then-nodes_in-node c = rw (← c.nodes_in.ensures, le-ltb _ _ c.if-nodes_in-node.true)

pub returns-then-not-is_string : goal.returns-then-not-is_string
returns-then-not-is_string c =
    let a = c.args in
    let s = sound_at a.s.now a.nodes.now a.used a.node in
    and-false s
    ∙ ap (λ b. s && b) (sym c.if-not-is_string.true ∙ c.is_string.ensures ∙ ap (λ (n : Node). is_string n.letter) c.node_at-n.ensures)

pub text_sound-requires : goal.text_sound-requires
text_sound-requires c = (c.requires, sym c.is_string.ensures ∙ c.if-not-is_string.false)

pub returns : goal.returns
unfolding sound_at
returns c =
    let a = c.args in
    rw (← c.nodes_in.ensures, lt-ltb _ _ c.if-nodes_in-node.false)
    (c.text_sound.ensures ∙ ap (sound a.s.now) c.node_at-n.ensures ∙ and-true _
    ∙ ap (λ b. sound a.s.now (node_at a.nodes.now a.node) && b)
    (sym c.if-not-is_string.false ∙ c.is_string.ensures ∙ ap (λ (n : Node). is_string n.letter) c.node_at-n.ensures))
