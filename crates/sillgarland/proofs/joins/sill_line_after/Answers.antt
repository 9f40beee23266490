-- `sillgarland::joins::sill_line_after` meets its contract: what is told of a table, handed on as numbers.
-- Assumes nothing.
use mathlib.Core.Path.{ap, ◌∙◌}
use mir.Facts.{to_z-of_z}
use Rattle.sillgarland.specs.Joins.{line_struct}
use Rattle.sillgarland.proofs.joins.sill_line_after.Goals as goal

pub returns : goal.returns
returns c =
    let told = c.line_after.ensures in
    let known = simp (to_z-of_z c.ranges.first_line) at told in
    c.from.ensures ∙ ap line_struct known
