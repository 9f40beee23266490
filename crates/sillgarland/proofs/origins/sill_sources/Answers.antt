-- `sillgarland::origins::sill_sources` meets its contract: the table's answer, handed on as numbers.
-- Assumes nothing.
use mathlib.Core.Path.{ap, ◌∙◌}
use mir.Facts.{to_z-of_z}
use Rattle.sillgarland.specs.Sources.{sourced_struct}
use Rattle.sillgarland.proofs.origins.sill_sources.Goals as goal

pub returns : goal.returns
returns c =
    let told = c.sources_of_table.ensures in
    let known = simp (to_z-of_z c.ranges.first_line) at told in
    (c.from.ensures ∙ ap sourced_struct known.0, known.1)
