-- `totals::add_to` meets its contract: at each turn the counters before the next one are summed.
-- Assumes nothing.
use borrow.Author.Rules.{rules}
use Rattle.totals.proofs.Adding.{add-stop, add_turn, add_end}
use Rattle.totals.proofs.add_to.Goals as goal

pub returns-then-more-sum : goal.returns-then-more-sum
returns-then-more-sum c = add-stop c.loop-i.invariant c.counter-more.ensures c.loop-i-test.true c.if-more-sum.true (search rules) c.at.ensures

pub loop-i-preserved : goal.loop-i-preserved
loop-i-preserved c = search (add_turn, rules)

pub returns : goal.returns
returns c = search (add_end, rules)
