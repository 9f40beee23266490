-- `soundness::text_sound` meets its contract: the span, then what every string's letter asks.
-- Assumes nothing.
use mathlib.Core.Path.{sym, ap, ◌∙◌}
use mathlib.Core.Bool.{false, cond, ◌&&◌}
use borrow.Author.Tests.{lt-leb, le-leb, eq-eqb, ne_eqb}
use Rattle.wtf8.specs.Forms.{well_formed}
use Rattle.grammar.specs.Fields.{contents}
use Rattle.grammar.specs.Record as definition
use Rattle.stores.specs.Written.{node_of}
use Rattle.soundness.specs.Texts.{too_long}
use Rattle.soundness.proofs.Laws.{text-ruled}
use Rattle.soundness.proofs.text_sound.Goals as goal

pub returns-then-s-node : goal.returns-then-s-node
unfolding definition.sound
returns-then-s-node c = rw (lt-leb _ _ c.if-s-node.true)

pub returns-then-node-ne0 : goal.returns-then-node-ne0
unfolding definition.sound
returns-then-node-ne0 c =
    let s = c.args.s.now in
    let n = node_of c.args.node in
    rw (le-leb _ _ c.if-s-node.false)
    (sym (text-ruled s n c.requires.1 ∙ ap (λ b. b && cond (too_long n.letter n.size) false (well_formed (contents s n.place n.size))) (ne_eqb n.count 0 c.if-node-ne0.true)))

pub returns-then-too_long : goal.returns-then-too_long
unfolding definition.sound
returns-then-too_long c =
    let s = c.args.s.now in
    let n = node_of c.args.node in
    rw (le-leb _ _ c.if-s-node.false)
    (sym (text-ruled s n c.requires.1
    ∙ ap (λ b. b && cond (too_long n.letter n.size) false (well_formed (contents s n.place n.size))) (eq-eqb n.count 0 c.if-node-ne0.false)
    ∙ ap (λ b. cond b false (well_formed (contents s n.place n.size))) (sym c.too_long.ensures ∙ c.if-too_long.true)))

pub returns : goal.returns
unfolding definition.sound
returns c =
    let s = c.args.s.now in
    let n = node_of c.args.node in
    rw (le-leb _ _ c.if-s-node.false)
    (c.well_formed-2.ensures
    ∙ sym (text-ruled s n c.requires.1
    ∙ ap (λ b. b && cond (too_long n.letter n.size) false (well_formed (contents s n.place n.size))) (eq-eqb n.count 0 c.if-node-ne0.false)
    ∙ ap (λ b. cond b false (well_formed (contents s n.place n.size))) (sym c.too_long.ensures ∙ c.if-too_long.false)))
