-- Carried by `Straight` itself: so many entries are passed, and the next is the one behind them. Assumes nothing.
use Rattle.chains.specs.Chained.{Straight}
use mathlib.Core.Path.{◌≡◌}
use Prim.Native.Nat.{◌+◌}
use Rattle.chains.proofs.straight.Given as goal

abbrev pub invariant-loop-i : goal.invariant-loop-i
invariant-loop-i l = (l.e ≡ l.first + l.i) × Straight l.entries l.room l.first l.steps l.i
