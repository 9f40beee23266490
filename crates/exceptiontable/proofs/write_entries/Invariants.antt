-- `exceptiontable::write_entries` meets its contract: at each turn the entries still to come make the same answer and output.
-- Assumes nothing.
use Prim.Native.Nat.{◌*◌, ◌/◌, ◌-◌}
use lib.ListN.{length}
use Rattle.exceptiontable.proofs.Encoding.{EncodedSoFar}
use Rattle.exceptiontable.proofs.write_entries.Given as goal

abbrev pub invariant-loop-i : goal.invariant-loop-i
invariant-loop-i l = EncodedSoFar l.entries (length l.initial.out) l.out (5 * l.i) l.used (length l.entries / 5 - l.i)
