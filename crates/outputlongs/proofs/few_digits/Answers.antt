-- One digit at a time. Assumes nothing.
use Rattle.outputlongs.proofs.Integers.{digits_0, digits_1, digits_2, digits_3}
use native.Mathlib.Omega.{arith}
use Rattle.outputlongs.proofs.few_digits.Goals as goal

pub returns-then-count-eq0 : goal.returns-then-count-eq0
returns-then-count-eq0 c = digits_0 c.args.s.now c.args.count c.args.at (omega arith)

pub returns-then-count-eq1 : goal.returns-then-count-eq1
returns-then-count-eq1 c = digits_1 c.args.s.now c.args.count c.args.at (omega arith) c.le16-low.ensures.0

pub returns-then-count-eq2 : goal.returns-then-count-eq2
returns-then-count-eq2 c = digits_2 c.args.s.now c.args.count c.args.at (omega arith) c.le16-low.ensures.0 c.le16-middle.ensures.0

pub returns : goal.returns
returns c =
    digits_3 c.args.s.now c.args.count c.args.at (omega arith) (λ e. omega arith) (λ e. omega arith) (λ e. omega arith) c.le16-low.ensures.0 c.le16-middle.ensures.0 c.le16.ensures.0
