-- Carried by `Same`: the bytes that are left tell the same. Assumes nothing.
use Rattle.cellnames.proofs.Groups.{same_none, same_not, same_more, same_all}
use native.Mathlib.Omega.{arith}
use Rattle.cellnames.proofs.same_bytes.Goals as goal

pub loop-i-init : goal.loop-i-init
loop-i-init c = same_none _ _ _ _

pub returns-then-s-a : goal.returns-then-s-a
returns-then-s-a c = same_not c.args.s.now c.args.a c.args.b c.args.size c.requires.0 c.requires.1 c.loop-i.invariant c.loop-i-test.true (λ e. omega arith)

pub loop-i-preserved : goal.loop-i-preserved
loop-i-preserved c = same_more c.args.s.now c.args.a c.args.b c.args.size c.requires.0 c.requires.1 c.loop-i.invariant c.loop-i-test.true (omega arith)

pub returns : goal.returns
returns c = same_all c.args.s.now c.args.a c.args.b c.args.size c.requires.0 c.requires.1 c.loop-i.invariant (omega arith)
