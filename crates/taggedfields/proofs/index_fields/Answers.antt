-- `taggedfields::index_fields` meets its contract, by the laws of this crate that it names.
-- Assumes nothing.
use Rattle.taggedfields.proofs.Indexing.{indexing_start, indexing_end, indexing_repeated, cut-header, cut, more}
use mathlib.Core.Path.{refl}
use native.Mathlib.Omega.{arith}
use Rattle.taggedfields.proofs.index_fields.Goals as goal

pub loop-at-init : goal.loop-at-init
loop-at-init c = indexing_start _ c.requires

pub returns-then-places-tag-ne0 : goal.returns-then-places-tag-ne0
returns-then-places-tag-ne0 c = rw c.at.ensures (indexing_repeated c.loop-at.invariant c.loop-at-test.true c.from-tag.ensures
    (omega (arith, c.from-tag.ensures, c.type_inv.file c.loop-at.at)) c.if-places-tag-ne0.true)

pub returns-then-file-at-lt3 : goal.returns-then-file-at-lt3
returns-then-file-at-lt3 c = rw c.at-then-file-at-lt3.ensures (cut-header c.loop-at.invariant c.loop-at-test.true
    c.from-tag.ensures (omega (arith, c.from-tag.ensures, c.type_inv.file c.loop-at.at)) c.if-places-tag-ne0.false c.if-file-at-lt3.true)

pub returns-then-file-at : goal.returns-then-file-at
returns-then-file-at c = rw c.at-then-file-at.ensures (cut c.loop-at.invariant c.from-tag.ensures
    (omega (arith, c.from-tag.ensures, c.type_inv.file c.loop-at.at)) c.if-places-tag-ne0.false c.size_at-size.ensures.0
    (omega (arith, c.loop-at.invariant.within)) c.if-file-at.true)

pub loop-at-preserved : goal.loop-at-preserved
loop-at-preserved c = more c.loop-at.invariant c.from-tag.ensures
    (omega (arith, c.from-tag.ensures, c.type_inv.file c.loop-at.at)) c.if-places-tag-ne0.false c.size_at-size.ensures.0 c.size_at-size.ensures.1
    (omega (arith, c.loop-at.invariant.within))

pub returns : goal.returns
returns c = indexing_end c.loop-at.invariant c.loop-at-test.false
