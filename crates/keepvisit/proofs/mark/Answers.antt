-- `mark` meets its contract by the laws cited here. Assumes nothing.
use mathlib.Core.Path.{◌≡◌, refl}
use Prim.Native.Nat.{◌+◌, ◌-◌, ◌≤◌, ◌<◌}
use native.Mathlib.Omega.{arith}
use Rattle.keepvisit.proofs.Marking.{walking_out, walking_met, walking_on, walking_done}
use borrow.Author.Rules.{rules}
use Rattle.keepvisit.proofs.mark.Goals as goal

pub loop-i-init : goal.loop-i-init
loop-i-init c =
    let all : c.args.count - 0 ≡ c.args.count = omega arith in
    rw all (record { comes = refl; same = refl })

pub returns-then-limit-e : goal.returns-then-limit-e
returns-then-limit-e c =
    let some : 0 < c.args.count - c.loop-i.i = omega arith in
    search (walking_out, rules)

pub returns-then-s-at-ne0 : goal.returns-then-s-at-ne0
returns-then-s-at-ne0 c =
    let some : 0 < c.args.count - c.loop-i.i = omega arith in
    search (walking_met, rules)

pub loop-i-preserved : goal.loop-i-preserved
loop-i-preserved c =
    let i = c.loop-i.i in
    let next : c.args.count - (i + 1) ≡ c.args.count - i - 1 = omega arith in
    let some : 0 < c.args.count - i = omega arith in
    rw next (search (walking_on, rules))

pub returns : goal.returns
returns c =
    let none : c.args.count - c.loop-i.i ≤ 0 = omega arith in
    search (walking_done, rules)
