-- `startindex::start_bit` meets its contract: the first starts a row, and the others by their test. Assumes nothing.
use native.Mathlib.Omega.{arith}
use Rattle.startindex.proofs.Words.{first_starts, behind_first}
use borrow.Author.Rules.{rules}
use Rattle.startindex.proofs.start_bit.Goals as goal

pub returns-then-i-eq0 : goal.returns-then-i-eq0
returns-then-i-eq0 c = (first_starts _ _ c.if-i-eq0.true, omega arith)

pub later_bit-requires : goal.later_bit-requires
later_bit-requires c = (behind_first _ c.if-i-eq0.false, search rules)
