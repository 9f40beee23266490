-- `totals::tally` meets its contract: each answer is one more in the cell of its own number.
-- Assumes nothing.
use lib.ListN.{length}
use Rattle.totals.proofs.Counting.{TallySoFar}
use Rattle.totals.proofs.tally.Given as goal

abbrev pub invariant-loop-answer : goal.invariant-loop-answer
invariant-loop-answer l = TallySoFar l.answers (length l.initial.after) l.after l.answer-index
