-- `varintread::read_varint` meets its contract: at each turn the bytes that are left still read as the same number, or as one too large.
-- Assumes nothing.
use mathlib.Core.Path.{◌∙◌}
use borrow.Author.Tests.{le-ltb}
use Rattle.varintread.specs.Reading.{read_varint}
use Rattle.varintread.proofs.ReadLoop.{read_start, read-turn, read_end, read-cut}
use Rattle.varintread.proofs.read_varint.Goals as goal

pub returns-then-data-at : goal.returns-then-data-at
unfolding read_varint
returns-then-data-at c = simp (le-ltb _ _ c.if-data-at.true)

pub loop-i-init : goal.loop-i-init
loop-i-init c = read_start _ _ c.if-data-at.false

pub returns-then-byte-eq0 : goal.returns-then-byte-eq0
returns-then-byte-eq0 c =
    let turn = c in
    c.whole.ensures
    ∙ read_end c.loop-i.invariant c.loop-i-test.true c.if-byte-eq0.true c.with_group-val.ensures

pub loop-i-preserved : goal.loop-i-preserved
loop-i-preserved c =
    let turn = c in
    read-turn c.loop-i.invariant c.loop-i-test.true c.if-byte-eq0.false c.with_group-val.ensures

pub returns : goal.returns
returns c = read-cut c.loop-i.invariant c.loop-i-test.false
