-- `gather_links` meets its contract by the laws cited here. Assumes nothing.
use mathlib.Core.Path.{◌≡◌, refl}
use Prim.Native.Nat.{◌+◌, ◌-◌, ◌≤◌, ◌<◌}
use native.Mathlib.Omega.{arith}
use Rattle.keepmove.proofs.Gathering.{links_more, links_none, links-done}
use Rattle.keepmove.proofs.gather_links.Goals as goal

pub returns-then-count-eq0 : goal.returns-then-count-eq0
returns-then-count-eq0 c =
    links_none (record { comes = refl; same = refl; ends = refl; numbered = refl }) c.if-count-eq0.true

pub loop-at-init : goal.loop-at-init
loop-at-init c =
    let a = c.args in
    let all : a.from + a.count - a.from ≡ a.count = omega arith in
    rw all (record { comes = refl; same = refl; ends = refl; numbered = refl })

pub loop-at-preserved : goal.loop-at-preserved
loop-at-preserved c =
    let a = c.args in
    let at = c.loop-at.at in
    let next : a.from + a.count - (at + 1) ≡ a.from + a.count - at - 1 = omega arith in
    let more : 1 < a.from + a.count - at = omega arith in
    rw next (links_more c.loop-at.invariant more)

pub returns : goal.returns
returns c =
    let a = c.args in
    let at = c.loop-at.at in
    let here : at ≡ a.from + (a.count - 1) = omega arith in
    let one : a.from + a.count - at ≤ 1 = omega arith in
    rw (← here) (links-done c.loop-at.invariant one (λ e. absurd (omega arith)))
