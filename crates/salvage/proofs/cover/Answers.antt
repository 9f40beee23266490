-- `salvage::cover` meets its contract: entries of eight, then the remainder. Assumes nothing.
use native.Mathlib.Omega.{arith}
use Rattle.salvage.proofs.Stores.{covered_less, covered_even}
use Rattle.salvage.proofs.cover.Goals as goal

pub returns-then-left-gt0 : goal.returns-then-left-gt0
returns-then-left-gt0 c = covered_less c.args.out.now c.args.at c.args.left c.requires.0 (c.fill.ensures.after (λ y e. e)) c.if-left-gt0.true

pub returns-else-left-gt0 : goal.returns-else-left-gt0
returns-else-left-gt0 c = covered_even c.args.out.now c.args.at c.args.left c.requires.0 (c.fill.ensures.after (λ y e. e)) (omega (arith, c.if-left-gt0.false))
