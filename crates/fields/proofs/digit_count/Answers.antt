-- `fields::digit_count` meets its contract: by the sign.
-- Assumes nothing.
use borrow.Author.Rules.{rules}
use borrow.Author.Tests.{lt-ltb, le-ltb}
use Rattle.fields.proofs.digit_count.Goals as goal

pub returns-then-count-lt2147483648 : goal.returns-then-count-lt2147483648
returns-then-count-lt2147483648 c = rw (lt-ltb _ _ c.if-count-lt2147483648.true) (search rules)

pub returns-else-count-lt2147483648 : goal.returns-else-count-lt2147483648
returns-else-count-lt2147483648 c = rw (le-ltb _ _ c.if-count-lt2147483648.false) (search rules)
