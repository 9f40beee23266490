-- `startindex::full_word` meets its contract: what is made so far is the word of the instructions behind. Assumes nothing.
use Rattle.startindex.proofs.Words.{gathering_none, gathering_fits, gathering_more, gathering_all}
use borrow.Author.Rules.{rules}
use Rattle.startindex.proofs.full_word.Goals as goal

pub loop-j-init : goal.loop-j-init
loop-j-init c = gathering_none _ _

pub overflow_mul-word : goal.overflow_mul-word
overflow_mul-word c = search (gathering_fits c.loop-j.invariant c.loop-j-test.true, rules)

pub overflow_add-word : goal.overflow_add-word
overflow_add-word c = search (gathering_fits c.loop-j.invariant c.loop-j-test.true, rules)

pub loop-j-preserved : goal.loop-j-preserved
loop-j-preserved c = gathering_more c.loop-j.invariant c.loop-j-test.true c.eight_bits.ensures.0

pub returns : goal.returns
returns c = search (gathering_all, rules)
