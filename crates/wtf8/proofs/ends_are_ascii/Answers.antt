-- `wtf8::ends_are_ascii` meets its contract: first bytes that are not ASCII tell of all, and so do both parts together.
-- Assumes nothing.
use mathlib.Core.Path.{sym}
use lib.Seq.{length-take-le}
use Rattle.wtf8.proofs.Ascii.{by_first, by_both}
use Rattle.wtf8.proofs.ends_are_ascii.Goals as goal

pub slice_bounds-greatest-end : goal.slice_bounds-greatest-end
slice_bounds-greatest-end c = sym (length-take-le _ _ c.requires.0)

pub returns-then-greatest-ge128 : goal.returns-then-greatest-ge128
returns-then-greatest-ge128 c = by_first c.requires c.greatest.ensures c.if-greatest-ge128.true

pub returns : goal.returns
returns c =
    by_both c.requires c.greatest.ensures c.if-greatest-ge128.false c.greatest-2.ensures
