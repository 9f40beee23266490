-- `wtf8::stands` meets its contract: its two tests are those of `within`.
-- Assumes nothing.
use borrow.Author.Tests.{lt-leb, le-leb}
use Rattle.wtf8.proofs.stands.Goals as goal

pub returns-then-byte-low : goal.returns-then-byte-low
returns-then-byte-low c = rw (lt-leb _ _ c.if-byte-low.true)

pub returns : goal.returns
returns c = rw (le-leb _ _ c.if-byte-low.false)
