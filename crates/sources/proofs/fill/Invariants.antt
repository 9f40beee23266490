-- `sources::fill` meets its contract: what is left to store still comes to the same store.
-- Assumes nothing.
use mathlib.Core.Path.{◌≡◌}
use Prim.Native.Nat.{◌-◌, ◌+◌}
use lib.ListN.{length, replicate}
use lib.Seq.{sets}
use Rattle.sources.proofs.fill.Given as goal

abbrev pub invariant-loop-j : goal.invariant-loop-j
invariant-loop-j l =
    (length l.bytes ≡ length l.initial.bytes) × (sets l.initial.bytes l.from (replicate l.n l.byte) ≡ sets l.bytes (l.from + l.j) (replicate (l.n - l.j) l.byte))
