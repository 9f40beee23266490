-- `sillgarland::locations::sill_locate` meets its contract: the table's answer, handed on as numbers.
-- Assumes nothing.
use mathlib.Core.Path.{ap, ◌∙◌}
use mir.Facts.{to_z-of_z}
use Rattle.sillgarland.specs.Locations.{located_struct}
use Rattle.sillgarland.proofs.locations.sill_locate.Goals as goal

pub returns : goal.returns
returns c =
    let located = c.linetable_to_records.ensures in
    let known = simp (to_z-of_z c.ranges.first_line) at located in
    (c.from.ensures ∙ ap located_struct known.0, known.1)
