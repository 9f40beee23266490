-- `linetable::location_at` meets its contract: record i is there where all n are, where its last number is, and else nowhere.
use borrow.Author.Tests.{le-ltb}
use Rattle.linetable.specs.Answer.{location_at}
use Rattle.linetable.proofs.location_at.Goals as goal

pub record_at-requires-then-i-flat : goal.record_at-requires-then-i-flat
record_at-requires-then-i-flat c = c.if-i-flat.true

pub returns : goal.returns
unfolding location_at
returns c = rw (le-ltb _ _ c.if-i-flat.false)
