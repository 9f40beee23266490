-- `pieces::place_row` meets its contract: what is left still comes to the same summary and records, and each way out of a turn is a law of
-- proofs/Placing.
use Rattle.pieces.proofs.Placing.{Placing}
use Rattle.pieces.proofs.place_row.Given as goal

abbrev pub invariant-loop-left : goal.invariant-loop-left
invariant-loop-left l =
    Placing l.table l.first l.count l.initial.records l.from l.line l.at l.left l.entries l.records l.i

abbrev pub decreases-loop-left : goal.decreases-loop-left
decreases-loop-left l =
    l.left
