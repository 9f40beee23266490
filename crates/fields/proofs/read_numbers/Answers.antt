-- `fields::read_numbers` meets its contract: the number of whole fields says which one is cut.
-- Assumes nothing.
use borrow.Author.Rules.{rules}
use Rattle.fields.specs.Behind.{fields_of}
use Rattle.grammar.specs.Fields.{code_fields}
use Rattle.fields.proofs.Laws.{numbers-cut, numbers_in}
use native.Mathlib.Omega.{arith}
use Rattle.fields.proofs.read_numbers.Goals as goal

pub returns-then-whole-lt-CODE_WORDS : goal.returns-then-whole-lt-CODE_WORDS
unfolding fields_of code_fields
returns-then-whole-lt-CODE_WORDS c = rw c.at.ensures (record { ahead = tt; exact = numbers-cut c.args.from.input.now 5 c.args.from.at _ (search rules) c.if-whole-lt-CODE_WORDS.true })

pub returns : goal.returns
unfolding fields_of code_fields
returns c =
    record { ahead = (search rules, search rules); exact = numbers_in c.args.from.input.now 5 c.args.from.at _ (omega arith) }
