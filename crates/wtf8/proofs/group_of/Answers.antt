-- `wtf8::group_of` meets its contract: the table is lent as `specs/Leads` has it, and no entry passes its groups.
-- Assumes nothing.
use mathlib.Core.Path.{sym, ap, subst, ◌∙◌}
use mathlib.Core.List.{List}
use Prim.Native.Nat.{ℕ, ◌<◌}
use lib.ListN.{get_or}
use Rattle.wtf8.proofs.Table.{group_in_lem}
use borrow.Author.Rules.{rules}
use Rattle.wtf8.proofs.group_of.Goals as goal

pub returns : goal.returns
returns c =
    let start = c in
    let same = c.index.ensures ∙ ap (λ (t : List ℕ). get_or t c.args.byte 0) c.requires in
    (same, subst (λ (n : ℕ). n < 11) (sym same) (group_in_lem c.args.byte (search rules)))
