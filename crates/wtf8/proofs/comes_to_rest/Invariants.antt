-- `wtf8::comes_to_rest` meets its contract: the laws on going through bytes by the table.
-- Assumes nothing.
use Prim.Native.Nat.{◌-◌}
use lib.ListN.{length}
use Rattle.wtf8.proofs.Resting.{Resting}
use Rattle.wtf8.proofs.comes_to_rest.Given as goal

abbrev pub invariant-loop-at : goal.invariant-loop-at
invariant-loop-at l = Resting l.bytes l.at l.state

abbrev pub decreases-loop-at : goal.decreases-loop-at
decreases-loop-at l = length l.bytes - l.at
