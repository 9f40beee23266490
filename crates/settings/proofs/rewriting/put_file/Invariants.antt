-- `settings::rewriting::put_file` meets its contract, by the laws of this crate that it names.
-- Assumes nothing.
use lib.ListN.{length}
use Prim.Native.Nat.{◌-◌}
use Rattle.settings.proofs.Loops.{KeptSoFar}
use Rattle.settings.proofs.rewriting.put_file.Given as goal

abbrev pub invariant-loop-at : goal.invariant-loop-at
invariant-loop-at l = KeptSoFar l.own.file.now l.changes.file.now l.room l.initial.out l.out l.at l.used

abbrev pub decreases-loop-at : goal.decreases-loop-at
decreases-loop-at l = length l.own.file.now - l.at
