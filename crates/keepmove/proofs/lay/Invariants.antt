-- `lay` meets its contract by the laws cited here. Assumes nothing.
use Rattle.keepmove.proofs.Gathering.{Laying}
use mathlib.Core.Path.{◌≡◌}
use Prim.Native.Nat.{◌+◌, ◌*◌}
use Rattle.keepmove.proofs.lay.Given as goal

abbrev pub invariant-loop-i : goal.invariant-loop-i
invariant-loop-i l = (Laying l.numbers l.column l.width l.initial.store l.i l.at l.store) × (l.at ≡ l.column + l.i * l.width)
