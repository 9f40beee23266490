-- `wtf8::comes_to_rest` meets its contract: the laws on going through bytes by the table.
use native.Mathlib.Omega.{arith}
use Rattle.wtf8.proofs.Resting.{begun, onward-two, last, ended}
use Rattle.wtf8.proofs.comes_to_rest.Goals as goal

pub loop-at-init : goal.loop-at-init
loop-at-init c = begun

pub loop-at-preserved : goal.loop-at-preserved
loop-at-preserved c =
    onward-two c.loop-at.invariant c.loop-at-test.true (λ i. omega (arith, c.type_inv.bytes i))
    c.turn-half.ensures c.turn-state.ensures

pub returns-then-at-bytes : goal.returns-then-at-bytes
returns-then-at-bytes c =
    let byte = c.type_inv.bytes c.loop-at.at in
    last c.loop-at.invariant c.if-at-bytes.true c.loop-at-test.false (omega (arith, byte)) c.turn-last.ensures

pub returns : goal.returns
returns c = ended c.loop-at.invariant c.if-at-bytes.false
