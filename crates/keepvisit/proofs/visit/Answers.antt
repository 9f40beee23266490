-- `visit` meets its contract by the laws cited here.
use Rattle.std.proofs.Common.{arith}
use Rattle.std.proofs.Math.ListN.{length-set}
use borrow.Author.Rules.{rules}
use Rattle.keepvisit.proofs.Visiting.{starting, beyond, unsound, finished, passed, enters, entered, falls}
use Rattle.keepvisit.proofs.visit.Goals as goal

pub loop-top-init : goal.loop-top-init
loop-top-init c = search (starting, rules)

pub returns-then-bound-n : goal.returns-then-bound-n
returns-then-bound-n c = rw c.at.ensures (beyond c.loop-top.invariant c.loop-top-test.true c.if-bound-n.true)

pub loop-top-preserved-then-s-at-ne0 : goal.loop-top-preserved-then-s-at-ne0
loop-top-preserved-then-s-at-ne0 c = search (passed, rules)

pub returns-then-not-mark : goal.returns-then-not-mark
returns-then-not-mark c =
    rw c.at-then-not-mark.ensures
    (unsound c.loop-top.invariant c.loop-top-test.true c.if-bound-n.false c.if-s-at-ne0.false c.count_of-count.ensures c.first_of-first.ensures c.mark.ensures c.if-not-mark.true)

pub overflow_add-moved : goal.overflow_add-moved
overflow_add-moved c =
    omega (arith, enters c.loop-top.invariant c.loop-top-test.true c.if-bound-n.false c.if-s-at-ne0.false c.count_of-count.ensures c.first_of-first.ensures c.mark.ensures c.if-not-mark.false)

pub overflow_sub-top-in-loop-top : goal.overflow_sub-top-in-loop-top
overflow_sub-top-in-loop-top c =
    omega (arith, enters c.loop-top.invariant c.loop-top-test.true c.if-bound-n.false c.if-s-at-ne0.false c.count_of-count.ensures c.first_of-first.ensures c.mark.ensures c.if-not-mark.false)

pub push-requires : goal.push-requires
push-requires c =
    simp length-set (omega (arith, enters c.loop-top.invariant c.loop-top-test.true c.if-bound-n.false c.if-s-at-ne0.false c.count_of-count.ensures c.first_of-first.ensures c.mark.ensures c.if-not-mark.false, c.mark.ensures.same))

pub loop-top-smaller : goal.loop-top-smaller
loop-top-smaller c =
    falls c.loop-top.invariant c.loop-top-test.true c.if-bound-n.false c.if-s-at-ne0.false c.count_of-count.ensures c.first_of-first.ensures c.mark.ensures c.if-not-mark.false c.push.ensures

pub loop-top-preserved : goal.loop-top-preserved
loop-top-preserved c =
    entered c.loop-top.invariant c.loop-top-test.true c.if-bound-n.false c.if-s-at-ne0.false c.count_of-count.ensures c.first_of-first.ensures c.mark.ensures c.if-not-mark.false c.push.ensures

pub returns : goal.returns
returns c = search (finished, rules)
