-- `lineentry::as_signed` meets its contract: the test decides which case of the definition holds.
use borrow.Author.Tests.{lt-ltb, le-ltb}
use Rattle.lineentry.specs.Line.{as_signed}
use Rattle.lineentry.proofs.as_signed.Goals as goal

pub returns-then-bits-lt-ORIGIN : goal.returns-then-bits-lt-ORIGIN
unfolding as_signed
returns-then-bits-lt-ORIGIN c = rw (lt-ltb _ _ c.if-bits-lt-ORIGIN.true)

pub returns-else-bits-lt-ORIGIN : goal.returns-else-bits-lt-ORIGIN
unfolding as_signed
returns-else-bits-lt-ORIGIN c = rw (le-ltb _ _ c.if-bits-lt-ORIGIN.false)
