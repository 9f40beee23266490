-- `linetable::fill_locations`: the locations from i on are stored, and the others are as they were.
use Rattle.std.proofs.Common.{◌≡◌, ◌-◌, ◌≤◌, length}
use Rattle.linetable.proofs.Readback.{filled}
use Rattle.linetable.proofs.fill_locations.Given as goal

abbrev pub invariant-loop-i : goal.invariant-loop-i
invariant-loop-i l = (l.i ≤ length l.initial.out) × (l.out ≡ filled l.flat l.i (length l.initial.out - l.i) l.initial.out)
