-- The record and its chain, then the letter. Assumes nothing.
use Rattle.writecheck.proofs.Suited.{part_broken, tuple-part}
use Rattle.chains.proofs.Chains.{some_is, none_is}
use Rattle.writecheck.specs.Looking.{lent_of}
use Rattle.grammar.specs.Steps.{as_tuple}
use Rattle.grammar.specs.Record
use mathlib.Core.Path.{sym, ◌∙◌}
use Rattle.writecheck.proofs.tuple_fits.Goals as goal

pub returns-then-not-whole : goal.returns-then-not-whole
returns-then-not-whole c =
    let a = c.args in
    let t = lent_of a.values.now.lent in
    part_broken t as_tuple a.node (none_is (Record.whole t a.node) (sym c.if-not-whole.true ∙ c.whole.ensures))

pub returns : goal.returns
returns c =
    let a = c.args in
    let t = lent_of a.values.now.lent in
    tuple-part t a.node (some_is (Record.whole t a.node) (sym c.if-not-whole.false ∙ c.whole.ensures)).1 c.letter_of.ensures c.is_tuple.ensures
