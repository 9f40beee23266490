-- `startindex::later_bit` meets its contract by the test of the two lines. Assumes nothing.
use native.Mathlib.Omega.{arith}
use Rattle.startindex.proofs.Words.{same_line, other-line}
use Rattle.startindex.proofs.later_bit.Goals as goal

pub returns-then-records-i : goal.returns-then-records-i
returns-then-records-i c = (same_line _ _ c.requires.0 c.if-records-i.true, omega arith)

pub returns-else-records-i : goal.returns-else-records-i
returns-else-records-i c = (other-line _ _ c.requires.0 c.if-records-i.false, omega arith)
