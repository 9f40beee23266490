-- `exceptiontable::read_entries` meets its contract: at each turn the entries still to come make the same answer and store.
-- Assumes nothing.
use Prim.Native.Nat.{◌-◌}
use lib.ListN.{length}
use Rattle.exceptiontable.proofs.Decoding.{DecodedSoFar}
use Rattle.exceptiontable.proofs.read_entries.Given as goal

abbrev pub invariant-loop-at : goal.invariant-loop-at
invariant-loop-at l = DecodedSoFar l.table (length l.initial.entries) l.entries l.at l.count

abbrev pub decreases-loop-at : goal.decreases-loop-at
decreases-loop-at l = length l.table - l.at
