-- `fields::read_double` meets its contract: the tests of the two fields are the definition's.
-- Assumes nothing.
use borrow.Author.Rules.{rules}
use borrow.Author.Tests.{le-leb, lt-leb}
use Rattle.grammar.specs.Fields.{fields}
use Rattle.fields.specs.Behind.{fields_of}
use Rattle.fields.proofs.read_double.Goals as goal

pub returns-then-from-p : goal.returns-then-from-p
unfolding fields_of fields
returns-then-from-p c = rw c.at.ensures (record { ahead = tt; exact = rw (lt-leb _ _ c.if-from-p.true) })

pub returns-then-from-p-2 : goal.returns-then-from-p-2
unfolding fields_of fields
returns-then-from-p-2 c = rw c.at-then-from-p-2.ensures (record { ahead = tt; exact = rw (le-leb _ _ c.if-from-p.false, lt-leb _ _ c.if-from-p-2.true) })

pub returns : goal.returns
unfolding fields_of fields
returns c = record { ahead = (search rules, search rules); exact = rw (le-leb _ _ c.if-from-p.false, le-leb _ _ c.if-from-p-2.false) }
