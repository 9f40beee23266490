-- `fields::read_digits` meets its contract. The loop's invariant: the digits judged so far were fine, and what is left comes to the same answer.
-- Assumes nothing.
use mathlib.Core.Path.{◌≡◌, ap₂, subst₂}
use Prim.Native.Nat.{◌+◌, ◌-◌, ◌*◌}
use native.Mathlib.Omega.{arith}
use Rattle.grammar.specs.Fields.{digits}
use Rattle.fields.proofs.Laws.{Judging, all_judged, digit-cut, digit-bad, digit-fine}
use Rattle.fields.proofs.read_digits.Goals as goal

pub loop-i-init : goal.loop-i-init
loop-i-init c =
    let all : c.args.count - 0 ≡ c.args.count = omega arith in
    let here : c.args.from.at + 0 ≡ c.args.from.at = omega arith in
    record { fewer = omega arith; stands = omega arith; within = omega (arith, c.args.from.within, c.args.from.bound); comes = λ rest. ap₂ (λ n p. digits c.args.from.input.now n p rest) all here }

pub returns-then-le16-ge32768 : goal.returns-then-le16-ge32768
returns-then-le16-ge32768 c =
    rw c.at.ensures
    (digit-bad c.loop-i.invariant (omega (arith, c.min-whole.ensures)) (omega (arith, c.min-whole.ensures, c.args.from.within)) c.le16.ensures.0 c.if-le16-ge32768.true)

pub loop-i-preserved : goal.loop-i-preserved
loop-i-preserved c =
    let count = c.args.count in
    let at = c.args.from.at in
    let i = c.loop-i.i in
    let left : count - i - 1 ≡ count - (i + 1) = omega arith in
    let place : at + 2 * i + 2 ≡ at + 2 * (i + 1) = omega arith in
    subst₂ (λ l p. Judging c.args.from.input.now count at l p) left place
    (digit-fine c.loop-i.invariant (omega (arith, c.min-whole.ensures)) (omega (arith, c.min-whole.ensures, c.args.from.within)) c.le16.ensures.0 c.if-le16-ge32768.false)

pub returns-then-whole-count : goal.returns-then-whole-count
returns-then-whole-count c =
    let end : c.min-whole.result ≡ c.loop-i.i = omega arith in
    rw (c.at-then-whole-count.ensures, end)
    (digit-cut c.loop-i.invariant (omega (arith, c.min-whole.ensures)) (omega (arith, c.min-whole.ensures, c.args.from.within)))

pub returns : goal.returns
returns c = all_judged c.loop-i.invariant (omega (arith, c.min-whole.ensures))
