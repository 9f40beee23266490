-- `salvage::salvage_table` meets its contract: the first line as it is kept, then the repair.
-- Assumes nothing.
use mathlib.Core.Path.{◌≡◌, ◌∙◌, ap}
use mir.Syntax.{w32}
use mir.Val.{of_z}
use mir.Facts.{to_z-of_z}
use Rattle.lineentry.specs.Line.{as_signed}
use Rattle.linetable.specs.Answer.{first_line_of}
use Rattle.salvage.proofs.Told.{repairs_from}
use Rattle.salvage.proofs.salvage_table.Goals as goal

pub returns : goal.returns
returns c =
    let a = c.args in
    let bits = c.bits32.ensures ∙ ap (of_z w32) (to_z-of_z c.ranges.first_line) in
    let first : c.as_signed-first.result ≡ first_line_of a.first_line = c.as_signed-first.ensures ∙ ap as_signed bits in
    repairs_from a.table.now _ a.count first c.salvage.ensures
