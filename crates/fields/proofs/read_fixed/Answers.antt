-- `fields::read_fixed` meets its contract: the test of a field's size is the definition's.
-- Assumes nothing.
use borrow.Author.Rules.{rules}
use borrow.Author.Tests.{le-leb, lt-leb}
use Rattle.grammar.specs.Fields.{fields}
use Rattle.fields.specs.Behind.{fields_of}
use Rattle.fields.proofs.read_fixed.Goals as goal

pub returns-then-from-size : goal.returns-then-from-size
unfolding fields_of fields
returns-then-from-size c = rw c.at.ensures (record { ahead = tt; exact = rw (lt-leb _ _ c.if-from-size.true) })

pub returns : goal.returns
unfolding fields_of fields
returns c = record { ahead = (search rules, c.if-from-size.false); exact = rw (le-leb _ _ c.if-from-size.false) }
