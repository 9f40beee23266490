-- `lineentry::lt_byte` meets its contract: the test decides which case of the definition holds.
use borrow.Author.Tests.{lt-ltb, le-ltb}
use Rattle.lineentry.proofs.lt_byte.Goals as goal

pub returns-then-at-table : goal.returns-then-at-table
returns-then-at-table c = rw (lt-ltb _ _ c.if-at-table.true)

pub returns-else-at-table : goal.returns-else-at-table
returns-else-at-table c = rw (le-ltb _ _ c.if-at-table.false)
