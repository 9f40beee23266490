-- `sillgarland::piecewise::sill_locate_end` meets its contract: the end's answer, handed on as numbers. Assumes nothing.
use mathlib.Core.Path.{ap, ◌∙◌}
use Rattle.sillgarland.specs.Pieces.{pieced_struct}
use Rattle.sillgarland.proofs.piecewise.sill_locate_end.Goals as goal

pub returns : goal.returns
returns c =
    let left = c.locate_end.ensures in
    record { answers = c.from.ensures ∙ ap pieced_struct left.answers; states = left.states; fills = left.fills }
