-- The record and its chain, then the names. Assumes nothing.
use Rattle.writecheck.proofs.Suited.{part_broken, names_part_lem}
use Rattle.chains.proofs.Chains.{none_is}
use Rattle.writecheck.specs.Looking.{lent_of}
use Rattle.grammar.specs.Steps.{as_names}
use Rattle.grammar.specs.Record
use mathlib.Core.Path.{sym, ◌∙◌}
use Rattle.writecheck.proofs.whole_names_fit.Goals as goal

pub returns-then-not-whole : goal.returns-then-not-whole
returns-then-not-whole c =
    let a = c.args in
    let t = lent_of a.values.now.lent in
    part_broken t as_names a.node (none_is (Record.whole t a.node) (sym c.if-not-whole.true ∙ c.whole.ensures))

pub returns : goal.returns
returns c =
    let a = c.args in
    let t = lent_of a.values.now.lent in
    names_part_lem t a.node c.names_fit.ensures (sym c.if-not-whole.false ∙ c.whole.ensures)
