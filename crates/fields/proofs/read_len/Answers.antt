-- `fields::read_len` meets its contract: both tests are the definition's.
-- Assumes nothing.
use borrow.Author.Rules.{rules}
use borrow.Author.Tests.{le-leb, lt-leb, lt-ltb, le-ltb}
use Rattle.fields.proofs.read_len.Goals as goal

pub returns-then-from-p : goal.returns-then-from-p
returns-then-from-p c = rw c.at.ensures (record { within = tt; exact = λ rest. rw (lt-leb _ _ c.if-from-p.true) })

pub returns-then-le32-ge2147483648 : goal.returns-then-le32-ge2147483648
returns-then-le32-ge2147483648 c = rw c.at-then-le32-ge2147483648.ensures (record { within = tt; exact = λ rest. rw (le-leb _ _ c.if-from-p.false, ← c.le32.ensures, le-ltb _ _ c.if-le32-ge2147483648.true) })

pub returns : goal.returns
returns c =
    record { within = search rules; exact = λ rest. rw (le-leb _ _ c.if-from-p.false, ← c.le32.ensures, lt-ltb _ _ c.if-le32-ge2147483648.false) }
