-- `goldens::fields_in_room` meets its contract, by the laws of this crate that it names.
use mathlib.Core.Path.{sym, ap, ◌∙◌}
use lib.ListN.{length}
use lib.Seq.{sets}
use Rattle.std.proofs.lemmas.Result.{err_from_is_err_and}
use Rattle.goldenparts.specs.Spans.{golden_in}
use Rattle.goldens.specs.Moving.{new_form}
use Rattle.goldens.proofs.Moves.{golden_length, no_room_lem, in_room_lem}
use Rattle.goldens.proofs.fields_in_room.Goals as goal

pub returns-in_err-size : goal.returns-in_err-size
returns-in_err-size c =
    let a = c.args in
    let p = err_from_is_err_and c.from_residual.result c.from_residual.ensures.1 in
    rw (p.1, p.2)
    (no_room_lem (new_form (golden_in a.golden.file.now a.golden.parts)) (length a.out.now) (sym (golden_length a.golden.file.now a.golden.parts c.args.golden.standing 0)) c.in_err-size.ensures c.requires.2)

pub returns : goal.returns
returns c =
    let a = c.args in
    let golden = new_form (golden_in a.golden.file.now a.golden.parts) in
    in_room_lem golden (length a.out.now) (sym (golden_length a.golden.file.now a.golden.parts c.args.golden.standing 0)) c.in_ok-size.ensures
    (c.put_fields.ensures ∙ ap (λ o. sets o 0 golden) c.requires.2)
