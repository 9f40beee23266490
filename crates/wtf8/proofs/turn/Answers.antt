-- `wtf8::turn` meets its contract: the row of the byte's group, from the two tables as they are lent.
-- Assumes nothing.
use mathlib.Core.Path.{ap, ◌∙◌}
use mathlib.Core.List.{List}
use Prim.Native.Nat.{ℕ, ◌/◌, ◌%◌, ◌^◌}
use lib.ListN.{get_or}
use Rattle.wtf8.specs.Leads.{row_table}
use Rattle.wtf8.proofs.turn.Goals as goal

pub returns : goal.returns
returns c =
    let start = c in
    ap (λ (t : List ℕ). get_or t c.group_of-group.result 0 / 2 ^ (c.args.state % 64)) c.requires.1
    ∙ ap (λ (g : ℕ). get_or row_table g 0 / 2 ^ (c.args.state % 64)) c.group_of-group.ensures.0
