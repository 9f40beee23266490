-- `fields::read_wtf8` meets its contract: the part that is lent is the contents of the definition.
-- Assumes nothing.
use borrow.Author.Tests.{lt-leb}
use Rattle.fields.proofs.Laws.{string-bad, string_in}
use Rattle.fields.proofs.read_wtf8.Goals as goal

pub returns-then-from-start : goal.returns-then-from-start
returns-then-from-start c = rw c.at.ensures (record { within = tt; exact = λ rest. rw (lt-leb _ _ c.if-from-start.true) })

pub returns-then-not-is_wtf8_by_table : goal.returns-then-not-is_wtf8_by_table
returns-then-not-is_wtf8_by_table c = rw c.at-then-not-is_wtf8_by_table.ensures (let a = c.args in
    string-bad a.from.input.now a.from.at a.size c.if-from-start.false c.is_wtf8_by_table.ensures
    c.if-not-is_wtf8_by_table.true)

pub returns : goal.returns
returns c =
    let a = c.args in
    string_in a.from.input.now a.from.at a.size c.if-from-start.false c.is_wtf8_by_table.ensures
    c.if-not-is_wtf8_by_table.false
