-- `sources::fill_eight` meets its contract: what is left to store still comes to the same store.
-- Assumes nothing.
use mathlib.Core.Path.{sym, ◌∙◌}
use Prim.Native.Nat.{◌-◌}
use native.Mathlib.Omega.{arith}
use lib.ListN.{length-set}
use Rattle.sources.proofs.Counting.{fill-turn, fill_done}
use Rattle.sources.proofs.fill_eight.Goals as goal

pub loop-j-preserved : goal.loop-j-preserved
loop-j-preserved c =
    let l = c.loop-j in
    (simp length-set l.invariant.0, (l.invariant.1 ∙ fill-turn _ _ _ _ _ c.loop-j-test.true))

pub returns : goal.returns
returns c =
    let l = c.loop-j in
    sym (l.invariant.1 ∙ fill_done l.bytes _ (8 - l.j) _ (omega arith))
