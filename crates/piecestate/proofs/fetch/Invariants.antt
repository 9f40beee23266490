-- `piecestate::fetch` meets its contract: what is left to move still comes to the same bytes.
use lib.ListN.{length}
use Rattle.piecestate.specs.State.{low}
use Rattle.piecestate.proofs.Stores.{Moving}
use Rattle.piecestate.proofs.fetch.Given as goal

abbrev pub invariant-loop-i : goal.invariant-loop-i
invariant-loop-i l = Moving low l.initial.out 0 l.held 0 (length l.held) l.out l.i
