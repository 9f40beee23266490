-- `sources::walk_marks` meets its contract: the loop's invariant is that what is left still comes to the same bytes, and each way out of a
-- turn is a law of proofs/Going. Assumes nothing.
use Prim.Native.Nat.{◌-◌}
use lib.ListN.{length}
use Rattle.sources.specs.Marks.{marks}
use Rattle.sources.proofs.Going.{Going}
use Rattle.sources.proofs.walk_marks.Given as goal

abbrev pub invariant-loop-i : goal.invariant-loop-i
invariant-loop-i l =
    Going l.table l.count (length l.initial.bytes) (marks l.count l.table l.first 0 l.count) l.bytes l.lacks l.line l.at l.i

abbrev pub decreases-loop-i : goal.decreases-loop-i
decreases-loop-i l = l.count - l.i
