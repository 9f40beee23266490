-- `sillgarland::joins::sill_join` meets its contract: the join's answer, handed on as numbers.
-- Assumes nothing.
use mathlib.Core.Path.{ap, ◌∙◌}
use mir.Facts.{to_z-of_z}
use Rattle.sillgarland.specs.Joins.{joined_struct}
use Rattle.sillgarland.proofs.joins.sill_join.Goals as goal

pub returns : goal.returns
returns c =
    let start = c in
    let joined = c.join_tables.ensures in
    let known = simp (to_z-of_z c.ranges.first_a, to_z-of_z c.ranges.first_b) at joined in
    (c.from.ensures ∙ ap joined_struct known.0, known.1)
