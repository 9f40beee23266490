-- `fields::last_digit` meets its contract: there is none, or it is the one that is read.
-- Assumes nothing.
use borrow.Author.Rules.{rules}
use borrow.Author.Tests.{eq-eqb, ne_eqb}
use Rattle.fields.proofs.Laws.{last}
use Rattle.fields.proofs.last_digit.Goals as goal

pub returns-then-count-eq0 : goal.returns-then-count-eq0
returns-then-count-eq0 c = record { within = search rules; exact = λ rest. rw c.if-count-eq0.true }

pub returns-then-le16-eq0 : goal.returns-then-le16-eq0
returns-then-le16-eq0 c = rw c.at.ensures (record { within = tt; exact = λ rest. rw (last _ _ _ rest c.if-count-eq0.false, ← c.le16.ensures.0, eq-eqb _ _ c.if-le16-eq0.true) })

pub returns : goal.returns
returns c =
    record { within = search rules; exact = λ rest. rw (last _ _ _ rest c.if-count-eq0.false, ← c.le16.ensures.0, ne_eqb _ _ c.if-le16-eq0.false) }
