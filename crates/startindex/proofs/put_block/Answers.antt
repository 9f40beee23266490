-- `startindex::put_block` meets its contract: what is left to store still comes to the same block, and the sum is the count so far.
-- Assumes nothing.
use mathlib.Core.Path.{◌∙◌}
use native.Mathlib.Omega.{arith}
use lib.ListN.{length-set}
use Rattle.startindex.proofs.Blocks.{filling_none, filling_small, filling_more, filling_all, block-stored}
use borrow.Author.Rules.{rules}
use Rattle.startindex.proofs.put_block.Goals as goal

pub loop-j-init : goal.loop-j-init
loop-j-init c = filling_none _ _ _ _ _ (simp length-set (omega arith)) c.requires.2 c.requires.1

pub overflow_add-sum : goal.overflow_add-sum
overflow_add-sum c = search (filling_small c.loop-j.invariant, rules)

pub loop-j-preserved : goal.loop-j-preserved
loop-j-preserved c = filling_more c.loop-j.invariant c.loop-j-test.true c.word_at-word.ensures c.ones_of-sum.ensures.0

pub shape_of-index : goal.shape_of-index
shape_of-index c = c.loop-j.invariant.same ∙ simp length-set

pub returns : goal.returns
returns c =
    let all = filling_all c.loop-j.invariant c.loop-j-test.false in
    (all.0, block-stored _ _ _ c.args.index.now c.requires.2 all.1)
