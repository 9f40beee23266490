-- `fields::read_few` meets its contract: the test of the length byte is the definition's.
-- Assumes nothing.
use borrow.Author.Rules.{rules}
use borrow.Author.Tests.{le-leb, lt-leb}
use Rattle.grammar.specs.Fields.{fields}
use Rattle.fields.specs.Behind.{fields_of}
use Rattle.fields.proofs.read_few.Goals as goal

pub returns-then-from-p : goal.returns-then-from-p
unfolding fields_of fields
returns-then-from-p c = rw c.at.ensures (record { ahead = tt; exact = rw (lt-leb _ _ c.if-from-p.true) })

pub returns : goal.returns
unfolding fields_of fields
returns c = record { ahead = (search rules, search rules); exact = rw (le-leb _ _ c.if-from-p.false, c.word.ensures.0) }
