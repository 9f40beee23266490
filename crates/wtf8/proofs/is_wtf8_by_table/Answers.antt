-- `wtf8::is_wtf8_by_table` meets its contract: bytes of ASCII are well-formed, and the others are gone through by the table.
-- Assumes nothing.
use borrow.Author.Rules.{rules}
use mathlib.Core.Path.{refl, sym}
use Rattle.wtf8.specs.Leads.{row_table}
use Rattle.wtf8.proofs.Reached.{all_ascii}
use Rattle.wtf8.proofs.is_wtf8_by_table.Goals as goal

pub returns-then-is_ascii : goal.returns-then-is_ascii
returns-then-is_ascii c =
    sym (all_ascii c.args.bytes.now (c.is_ascii.ensures.low c.if-is_ascii.true))

pub comes_to_rest-requires : goal.comes_to_rest-requires
unfolding row_table
comes_to_rest-requires c = (search rules, refl)
