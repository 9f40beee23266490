-- Levels, record, front. Assumes nothing.
use Rattle.writevalue.proofs.Opening.{open_deep, open_bad, open_front, held_node, looks_bad, looks_held}
use Rattle.writecheck.specs.Looking.{lent_of}
use Rattle.grammar.specs.Record.{sound}
use Rattle.grammar.specs.State.{Node}
use mathlib.Core.Bool.{true}
use mathlib.Core.Path.{◌≡◌, refl, sym, subst}
use Rattle.writevalue.proofs.open_node.Goals as goal

pub returns-then-too_deep : goal.returns-then-too_deep
returns-then-too_deep c =
    let a = c.args in
    let t = lent_of a.values.now.lent in
    open_deep t a.allowance a.node (c.too_deep.ensures.tells t refl refl) c.if-too_deep.true c.requires.inside c.at.ensures

pub returns-then-not-look : goal.returns-then-not-look
returns-then-not-look c =
    let a = c.args in
    let t = lent_of a.values.now.lent in
    open_bad t a.allowance a.node (c.too_deep.ensures.tells t refl refl) c.if-too_deep.false (looks_bad t a.node c.look.result c.look.ensures c.if-not-look.true) c.requires.inside c.at-then-not-look.ensures

pub write_front-requires : goal.write_front-requires
write_front-requires c =
    let a = c.args in
    let t = lent_of a.values.now.lent in
    let asked = c.requires in
    (asked, subst (λ (m : Node). sound a.values.now.lent.input.now m ≡ true) (sym c.node_of-n.ensures) (held_node t a.node (looks_held t a.node c.look.result c.look.ensures c.if-not-look.false)), c.class_of.ensures)

pub shape_of-out : goal.shape_of-out
shape_of-out c = c.write_front.auto.out

pub returns : goal.returns
returns c =
    let a = c.args in
    let t = lent_of a.values.now.lent in
    open_front t a.allowance a.node (c.too_deep.ensures.tells t refl refl) c.if-too_deep.false (looks_held t a.node c.look.result c.look.ensures c.if-not-look.false) c.node_of-n.ensures c.write_front.auto.out c.write_front.ensures
