-- `linetable::fill` meets its contract: what is left to store still comes to the same store.
use mathlib.Core.Path.{◌≡◌, ◌∙◌}
use Prim.Native.Nat.{◌+◌, ◌-◌, ◌*◌}
use native.Mathlib.Omega.{arith}
use Rattle.linetable.proofs.Stores.{fill-turn}
use Rattle.linetable.proofs.fill.Goals as goal

pub loop-i-preserved : goal.loop-i-preserved
loop-i-preserved c =
    let a = c.args in
    let i = c.loop-i.i in
    let next : a.from + 4 * i + 4 ≡ a.from + 4 * (i + 1) = omega arith in
    let less : a.n - i - 1 ≡ a.n - (i + 1) = omega arith in
    c.loop-i.invariant ∙ rw (← next, ← less) (fill-turn c.loop-i.records (a.from + 4 * i) (a.n - i) a.location (omega (arith, c.loop-i-test.true)))
