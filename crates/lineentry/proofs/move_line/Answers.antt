-- `lineentry::move_line` meets its contract: the two tests decide which case of the definition holds.
use borrow.Author.Tests.{lt-ltb, le-ltb}
use Rattle.lineentry.specs.Line.{moved}
use Rattle.lineentry.proofs.move_line.Goals as goal

pub returns-then-sum : goal.returns-then-sum
unfolding moved
returns-then-sum c = rw (lt-ltb _ _ c.if-sum.true)

pub returns-then-sum-lt6442450944 : goal.returns-then-sum-lt6442450944
unfolding moved
returns-then-sum-lt6442450944 c = rw (le-ltb _ _ c.if-sum.false, lt-ltb _ _ c.if-sum-lt6442450944.true)

pub returns : goal.returns
unfolding moved
returns c = rw (le-ltb _ _ c.if-sum.false, le-ltb _ _ c.if-sum-lt6442450944.false)
