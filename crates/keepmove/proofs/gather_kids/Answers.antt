-- `gather_kids` meets its contract by the laws cited here. Assumes nothing.
use mathlib.Core.Path.{◌≡◌}
use Prim.Native.Nat.{◌+◌, ◌-◌, ◌≤◌, ◌<◌}
use Rattle.keepmove.proofs.Gathering.{kids_more, kids-done}
use native.Mathlib.Omega.{arith}
use mathlib.Core.Path.{refl}
use borrow.Author.Rules.{rules}
use Rattle.keepmove.proofs.gather_kids.Goals as goal

pub loop-at-init : goal.loop-at-init
loop-at-init c =
    let a = c.args in
    let all : a.from + a.count - a.from ≡ a.count = omega arith in
    rw all (record { comes = refl; same = refl; ends = refl })

pub loop-at-preserved : goal.loop-at-preserved
loop-at-preserved c =
    let a = c.args in
    let at = c.loop-at.at in
    let next : a.from + a.count - (at + 1) ≡ a.from + a.count - at - 1 = omega arith in
    let some : 0 < a.from + a.count - at = omega arith in
    rw next (search (kids_more, rules))

pub returns : goal.returns
returns c =
    let a = c.args in
    let none : a.from + a.count - c.loop-at.at ≤ 0 = omega arith in
    search (kids-done, rules)
