-- `linetable::fill` meets its contract: what is left to store still comes to the same store.
use mathlib.Core.Path.{◌≡◌}
use Prim.Native.Nat.{◌+◌, ◌-◌, ◌*◌}
use lib.ListN.{replicate}
use lib.Seq.{sets}
use Rattle.linetable.specs.Answer.{numbers}
use Rattle.linetable.proofs.fill.Given as goal

abbrev pub invariant-loop-i : goal.invariant-loop-i
invariant-loop-i l =
    sets l.initial.records l.from (numbers (replicate l.n l.location)) ≡ sets l.records (l.from + 4 * l.i) (numbers (replicate (l.n - l.i) l.location))
