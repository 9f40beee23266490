-- `startindex::word_of` meets its contract: what is made so far is the word of the instructions behind. Assumes nothing.
use Rattle.startindex.proofs.Words.{making_none, making_fits, making_more, making_all}
use borrow.Author.Rules.{rules}
use Rattle.startindex.proofs.word_of.Goals as goal

pub loop-i-init : goal.loop-i-init
loop-i-init c = making_none _ _ _

pub overflow_mul-word : goal.overflow_mul-word
overflow_mul-word c = search (making_fits c.loop-i.invariant c.loop-i-test.true c.requires.1, rules)

pub overflow_add-word : goal.overflow_add-word
overflow_add-word c = search (making_fits c.loop-i.invariant c.loop-i-test.true c.requires.1, rules)

pub loop-i-preserved : goal.loop-i-preserved
loop-i-preserved c = search (making_more, rules)

pub returns : goal.returns
returns c = search (making_all, rules)
