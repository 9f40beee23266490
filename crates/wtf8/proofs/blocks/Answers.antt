-- `wtf8::blocks` meets its contract: the laws on a stretch of ASCII.
-- Assumes nothing.
use borrow.Author.Rules.{rules}
use Rattle.wtf8.proofs.Going.{low_none, low_more}
use Rattle.wtf8.proofs.blocks.Goals as goal

pub loop-end-init : goal.loop-end-init
loop-end-init c =
    low_none (search rules)

pub returns-then-greatest-ge128 : goal.returns-then-greatest-ge128
returns-then-greatest-ge128 c =
    c.loop-end.invariant.all

pub loop-end-preserved : goal.loop-end-preserved
loop-end-preserved c =
    low_more 8 c.loop-end.invariant c.loop-end-test.true c.greatest.ensures.bound c.if-greatest-ge128.false

pub returns : goal.returns
returns c =
    c.loop-end.invariant.all
