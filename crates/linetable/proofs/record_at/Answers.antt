-- `linetable::record_at` meets its contract: the last of the four numbers is there, so all are.
use borrow.Author.Tests.{lt-ltb}
use Rattle.linetable.specs.Answer.{location_at}
use Rattle.linetable.proofs.record_at.Goals as goal

pub returns : goal.returns
unfolding location_at
returns c = rw (lt-ltb _ _ c.requires)
