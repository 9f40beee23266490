-- `printedtotals::lines_size` meets its contract: the lines counted and those left are all.
-- Assumes nothing.
use native.Mathlib.Omega.{arith}
use Rattle.printedtotals.proofs.Printing.{size_start, size-turn, size_low, size_end}
use Rattle.printedtotals.proofs.lines_size.Goals as goal

pub loop-i-init : goal.loop-i-init
loop-i-init c = size_start _

pub overflow_add-size : goal.overflow_add-size
overflow_add-size c = record { fits = omega (arith, size_low c.loop-i.invariant c.loop-i-test.true, c.line_size-size.ensures.1) }

pub loop-i-preserved : goal.loop-i-preserved
loop-i-preserved c = size-turn c.loop-i.invariant c.loop-i-test.true c.counter.ensures c.line_size-size.ensures.0 c.line_size-size.ensures.1

pub returns : goal.returns
returns c = size_end c.loop-i.invariant c.loop-i-test.false
