-- `rows::walk_row` meets its contract: the loop's invariant is that what is left still comes to the same summary, and each way out of
-- a turn is a law of proofs/Going.
use Rattle.rows.proofs.Going.{Going}
use Rattle.rows.proofs.walk_row.Given as goal

abbrev pub invariant-loop-left : goal.invariant-loop-left
invariant-loop-left l = Going l.table l.first l.count l.line l.at l.left l.entries

abbrev pub decreases-loop-left : goal.decreases-loop-left
decreases-loop-left l = l.left
