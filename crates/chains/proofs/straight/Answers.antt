-- Carried by `Straight` itself: so many entries are passed, and the next is the one behind them. Assumes nothing.
use Rattle.chains.proofs.Chains.{straight_start, straight_more}
use native.Mathlib.Omega.{arith}
use Rattle.chains.specs.Chained.{Straight}
use mathlib.Core.Path.{◌≡◌, sym, subst, ◌∙◌}
use Rattle.chains.proofs.straight.Goals as goal

pub loop-i-init : goal.loop-i-init
loop-i-init c = (omega arith, straight_start)

pub returns-then-room-e : goal.returns-then-room-e
returns-then-room-e c = c.loop-i.invariant.1

pub returns-then-next_at-e : goal.returns-then-next_at-e
returns-then-next_at-e c = c.loop-i.invariant.1

pub loop-i-preserved : goal.loop-i-preserved
loop-i-preserved c = (omega (arith, c.loop-i.invariant.0), straight_more c.loop-i.invariant.1 c.loop-i.invariant.0 c.loop-i-test.true (omega arith) (sym c.next_at.ensures ∙ c.if-next_at-e.false))

pub returns : goal.returns
returns c =
    let a = c.args in
    let whole : c.loop-i.i ≡ a.steps = omega (arith, c.loop-i.invariant.1) in
    subst (Straight a.entries.now a.room a.first a.steps) whole c.loop-i.invariant.1
