-- `piecestate::hold` meets its contract: what is left to move still comes to the same numbers.
use lib.ListN.{length}
use Rattle.piecestate.proofs.Stores.{Moving}
use Rattle.piecestate.proofs.hold.Given as goal

abbrev pub invariant-loop-i : goal.invariant-loop-i
invariant-loop-i l = Moving (λ x. x) l.initial.state 10 l.s 0 (length l.s) l.state l.i
