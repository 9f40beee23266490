-- `settings::rewriting::put_new` meets its contract, by the laws of this crate that it names.
-- Assumes nothing.
use lib.ListN.{length}
use Prim.Native.Nat.{◌-◌}
use Rattle.settings.proofs.Loops.{AddedSoFar}
use Rattle.settings.proofs.rewriting.put_new.Given as goal

abbrev pub invariant-loop-at : goal.invariant-loop-at
invariant-loop-at l = AddedSoFar l.changes.file.now l.own.file.now l.room l.start l.initial.out l.out l.at l.used

abbrev pub decreases-loop-at : goal.decreases-loop-at
decreases-loop-at l = length l.changes.file.now - l.at
