-- `editions::put_new` meets its contract, by the laws of this crate that it names.
-- Assumes nothing.
use mathlib.Core.Path.{◌∙◌, ap, sym}
use mathlib.Core.List.{◌++◌}
use lib.Seq.{sets}
use lib.ListN.{length}
use Rattle.std.proofs.lemmas.Result.{err_from_is_err_and}
use Rattle.editions.specs.Archive.{record_of}
use Rattle.editions.proofs.Saving.{record_length, no_room_lem, in_room_lem}
use Rattle.editions.proofs.put_new.Goals as goal

pub returns-in_err-size : goal.returns-in_err-size
returns-in_err-size c =
    let a = c.args in
    let p = err_from_is_err_and c.from_residual.result c.from_residual.ensures.1 in
    rw (p.1, p.2)
    (no_room_lem (a.archive.now ++ record_of a.file.now) (length a.out.now) (sym (record_length a.archive.now a.file.now)) c.in_err-size.ensures c.requires.1)

pub returns : goal.returns
returns c =
    let a = c.args in
    in_room_lem (a.archive.now ++ record_of a.file.now) (length a.out.now) (sym (record_length a.archive.now a.file.now)) c.in_ok-size.ensures
    (c.put_record.ensures ∙ ap (λ o. sets o 0 (a.archive.now ++ record_of a.file.now)) c.requires.1)
