-- `linetable::walk_entries` meets its contract: the loop's invariant is that what is left still comes to the same reading,
-- and each way out of a turn is a law of proofs/Walking.
use Prim.Native.Nat.{◌-◌}
use lib.ListN.{length}
use Rattle.lineentry.specs.Entry.{at_line}
use Rattle.linetable.specs.Walk.{walk}
use Rattle.linetable.proofs.Walking.{Going}
use Rattle.linetable.proofs.walk_entries.Given as goal

abbrev pub invariant-loop-i : goal.invariant-loop-i
invariant-loop-i l =
    Going l.table l.count (length l.initial.records) l.left_over (walk l.count l.table (at_line l.first) l.first 0 l.count) l.initial.records l.records l.line l.at l.i l.missing

abbrev pub decreases-loop-i : goal.decreases-loop-i
decreases-loop-i l =
    l.count - l.i
