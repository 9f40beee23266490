-- `piecestate::is_counted` meets its contract: each test decides a case of the definition.
use borrow.Author.Tests.{lt-leb, lt-ltb, le-ltb}
use Rattle.piecestate.specs.State.{counted}
use Rattle.piecestate.proofs.is_counted.Goals as goal

pub returns-then-k : goal.returns-then-k
unfolding counted
returns-then-k c = rw (le-ltb _ _ c.if-k.true)

pub returns-else-k : goal.returns-else-k
unfolding counted
returns-else-k c = let h = c.if-k.false in rw (lt-leb _ _ h, lt-ltb _ _ h)
