-- The record and chain, and for a code its parts and its end. Assumes nothing.
use Rattle.writecheck.proofs.Codes.{look_broken, look-plain, look-parts, look-ends}
use Rattle.chains.proofs.Chains.{some_is}
use Rattle.writecheck.specs.Looking.{lent_of}
use Rattle.grammar.specs.Record
use Rattle.grammar.specs.State.{Node}
use native.Mathlib.Omega.{arith}
use mathlib.Core.Path.{ap, sym, ◌∙◌}
use Rattle.writecheck.proofs.look.Goals as goal

pub returns-then-not-whole : goal.returns-then-not-whole
returns-then-not-whole c = look_broken (lent_of c.args.values.now.lent) c.args.node (sym c.if-not-whole.true ∙ c.whole.ensures)

pub returns-then-n-ne-CODE_LETTER : goal.returns-then-n-ne-CODE_LETTER
returns-then-n-ne-CODE_LETTER c =
    let a = c.args in
    let t = lent_of a.values.now.lent in
    let w = (some_is (Record.whole t a.node) (sym c.if-not-whole.false ∙ c.whole.ensures)) in let l = (ap (λ (m : Node). m.letter) c.node_of-n.ensures) in look-plain t a.node w.0 w.1 (λ e. omega arith)

pub returns-then-not-parts_fit : goal.returns-then-not-parts_fit
returns-then-not-parts_fit c =
    let a = c.args in
    let t = lent_of a.values.now.lent in
    let node_of_lem = c.node_of-n.ensures in
    let w = (some_is (Record.whole t a.node) (sym c.if-not-whole.false ∙ c.whole.ensures)) in let l = (ap (λ (m : Node). m.letter) node_of_lem) in look-parts t a.node w.0 w.1 (omega arith) c.node_of-n.result.first (ap (λ (m : Node). m.first) node_of_lem) c.parts_fit.ensures c.if-not-parts_fit.true

pub returns : goal.returns
returns c =
    let a = c.args in
    let t = lent_of a.values.now.lent in
    let node_of_lem = c.node_of-n.ensures in
    let w = (some_is (Record.whole t a.node) (sym c.if-not-whole.false ∙ c.whole.ensures)) in let l = (ap (λ (m : Node). m.letter) node_of_lem) in look-ends t a.node w.0 w.1 (omega arith) c.node_of-n.result.first (ap (λ (m : Node). m.first) node_of_lem) c.parts_fit.ensures c.if-not-parts_fit.false c.ends_fit.ensures
