-- `totals::tally` meets its contract: each answer is one more in the cell of its own number.
-- Assumes nothing.
use borrow.Author.Rules.{rules}
use Rattle.totals.proofs.Counting.{tally_start, tally_unknown, tally_low, tally_turn, accepted-most, tally_end}
use Rattle.totals.proofs.tally.Goals as goal

pub loop-answer-init : goal.loop-answer-init
loop-answer-init c = tally_start _ _ (search rules) (search rules)

pub returns-then-answer-gt-LAST_NUMBER-clause-counted : goal.returns-then-answer-gt-LAST_NUMBER-clause-counted
returns-then-answer-gt-LAST_NUMBER-clause-counted c = search (tally_unknown, rules)

pub overflow_add-after-in-loop-answer : goal.overflow_add-after-in-loop-answer
overflow_add-after-in-loop-answer c = record { fits = tally_low c.loop-answer.invariant _ (search rules) }

pub loop-answer-preserved : goal.loop-answer-preserved
loop-answer-preserved c = search (tally_turn, rules)

pub overflow_sub-after : goal.overflow_sub-after
overflow_sub-after c = accepted-most c.loop-answer.invariant c.loop-answer-test.false

pub returns-clause-counted : goal.returns-clause-counted
returns-clause-counted c = search (tally_end, rules)
