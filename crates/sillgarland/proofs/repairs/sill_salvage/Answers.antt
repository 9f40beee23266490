-- `sillgarland::repairs::sill_salvage` meets its contract: the repair's answer, handed on as numbers.
-- Assumes nothing.
use mathlib.Core.Path.{ap, ◌∙◌}
use mir.Facts.{to_z-of_z}
use Rattle.sillgarland.specs.Salvage.{salvaged_struct}
use Rattle.sillgarland.proofs.repairs.sill_salvage.Goals as goal

pub returns : goal.returns
returns c =
    let repaired = c.salvage_table.ensures in
    let known = simp (to_z-of_z c.ranges.first_line) at repaired in
    (c.from.ensures ∙ ap salvaged_struct known.0, known.1)
