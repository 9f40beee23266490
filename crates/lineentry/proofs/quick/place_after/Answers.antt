-- `lineentry::quick::place_after` meets its contract by the test on the code.
use borrow.Author.Tests.{lt-ltb, le-ltb}
use Rattle.lineentry.proofs.quick.place_after.Goals as goal

pub returns-then-code-lt10 : goal.returns-then-code-lt10
returns-then-code-lt10 c = rw (lt-ltb _ _ c.if-code-lt10.true)

pub returns-else-code-lt10 : goal.returns-else-code-lt10
returns-else-code-lt10 c = rw (le-ltb _ _ c.if-code-lt10.false)
