-- `sillgarland::piecewise::sill_locate_begin` meets its contract: the start's answer, handed on as numbers. Assumes nothing.
use mathlib.Core.Path.{ap, ◌∙◌}
use mir.Facts.{to_z-of_z}
use Rattle.linetable.specs.Answer.{first_line_of}
use Rattle.pieces.specs.Calls.{begin}
use Rattle.sillgarland.specs.Pieces.{pieced_struct}
use Rattle.sillgarland.proofs.piecewise.sill_locate_begin.Goals as goal

pub returns : goal.returns
returns c =
    let a = c.args in
    let left = c.locate_begin.ensures in
    let first = to_z-of_z c.ranges.first_line in
    record {
      answers = c.from.ensures ∙ ap pieced_struct (left.answers ∙ ap (λ z. (begin (first_line_of z) a.count a.state.now a.records.now).answer) first);
      states = left.states ∙ ap (λ z. (begin (first_line_of z) a.count a.state.now a.records.now).state) first;
      fills = left.fills ∙ ap (λ z. (begin (first_line_of z) a.count a.state.now a.records.now).records) first;
    }
