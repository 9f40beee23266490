-- `sources::lack_more` meets its contract: a share of n for each count that the byte's bits do not have; of the byte that has all, nothing.
-- Assumes nothing.
use Rattle.sources.proofs.Counting.{lacks-nothing}
use Rattle.sources.proofs.lack_more.Goals as goal

pub returns-then-byte-eq31 : goal.returns-then-byte-eq31
returns-then-byte-eq31 c = lacks-nothing _ _ _ c.if-byte-eq31.true
