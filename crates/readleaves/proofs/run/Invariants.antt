-- `run` keeps what holds at the head of the reader's loop; a law of Running for each way out and for the turn.
-- Assumes nothing.
use Prim.Native.Nat.{◌-◌}
use lib.ListN.{length}
use Rattle.readleaves.proofs.Running.{Running}
use Rattle.readleaves.proofs.run.Given as goal

abbrev pub invariant-loop-refusal : goal.invariant-loop-refusal
invariant-loop-refusal l =
    Running l.kids l.header l.s l.room l.allowance l.initial.l l.initial.nodes l.initial.entries l.initial.slots l.nodes l.entries l.slots l.l

abbrev pub decreases-loop-refusal : goal.decreases-loop-refusal
decreases-loop-refusal l = length l.s - l.l.walk.at
