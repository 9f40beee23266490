-- `editions::save_edition` meets its contract, by the laws of this crate that it names.
-- Assumes nothing.
use mathlib.Core.Path.{refl, sym, ◌∙◌, ap}
use mathlib.Core.List.{◌++◌}
use lib.ListN.{length}
use native.Mathlib.Omega.{arith}
use Rattle.std.specs.Prelude.{Ok}
use Rattle.std.proofs.lemmas.Result.{err_from_is_err_and}
use Rattle.clearing.specs.Lent.{zeros}
use Rattle.editions.specs.Archive.{record_of}
use Rattle.editions.specs.Answers.{in_room}
use Rattle.editions.proofs.Searching.{found_within}
use Rattle.editions.proofs.Saving.{save_long, save_archive_fault, save_file-fault, save_missing, save_already, save_new}
use Rattle.editions.proofs.save_edition.Goals as goal

pub returns-then-archive-gt4294967295 : goal.returns-then-archive-gt4294967295
returns-then-archive-gt4294967295 c = rw (c.at.ensures, c.clear_bytes.ensures) (save_long c.args.archive.now c.args.file.now _ c.if-archive-gt4294967295.true)

pub returns-in_err-search-in-Err : goal.returns-in_err-search-in-Err
returns-in_err-search-in-Err c =
    let p = err_from_is_err_and c.from_residual.result c.from_residual.ensures.1 in
    rw (p.1, p.2, c.clear_bytes.ensures) (save_archive_fault c.args.archive.now c.args.file.now _ c.if-archive-gt4294967295.false _ c.in_err-search-in-Err.ensures)

pub returns-in_err-search-in-Ok-None : goal.returns-in_err-search-in-Ok-None
returns-in_err-search-in-Ok-None c =
    let r = c.from_residual-in_err-search-in-Ok-None in
    let p = err_from_is_err_and r.result r.ensures.1 in
    rw (p.1, p.2, c.clear_bytes.ensures) (save_archive_fault c.args.archive.now c.args.file.now _ c.if-archive-gt4294967295.false _ c.in_err-search-in-Ok-None.ensures)

pub of-requires : goal.of-requires
of-requires c = let w = found_within c.args.file.now c.args.file.now (ap Ok (sym c.in-Ok-Some.field-0-is) ∙ c.in-Ok-Some.ensures) in omega (arith, w)

pub returns-in_err-search-in-Ok-Some : goal.returns-in_err-search-in-Ok-Some
returns-in_err-search-in-Ok-Some c =
    let r = c.from_residual-in_err-search-in-Ok-Some in
    let p = err_from_is_err_and r.result r.ensures.1 in
    rw (p.1, p.2, c.clear_bytes.ensures) (save_archive_fault c.args.archive.now c.args.file.now _ c.if-archive-gt4294967295.false _ c.in_err-search-in-Ok-Some.ensures)

pub returns-in_ok-search-in-Err : goal.returns-in_ok-search-in-Err
returns-in_ok-search-in-Err c =
    rw c.clear_bytes.ensures
    (save_file-fault c.args.archive.now c.args.file.now _ c.if-archive-gt4294967295.false _ c.in_ok-search-in-Err.ensures c.in-Err.ensures)

pub returns-in_ok-search-in-Ok-None : goal.returns-in_ok-search-in-Ok-None
returns-in_ok-search-in-Ok-None c =
    rw (c.at-in-Ok-None.ensures, c.clear_bytes.ensures)
    (save_missing c.args.archive.now c.args.file.now _ c.if-archive-gt4294967295.false _ c.in_ok-search-in-Ok-None.ensures (ap Ok (sym c.in-Ok-None.field-0-is) ∙ c.in-Ok-None.ensures))

pub returns-in-Some : goal.returns-in-Some
returns-in-Some c =
    rw (c.at-in-Some.ensures, c.clear_bytes.ensures)
    (save_already c.args.archive.now c.args.file.now _ c.if-archive-gt4294967295.false _ c.in_ok-search-in-Ok-Some.ensures (ap Ok (sym c.in-Ok-Some.field-0-is) ∙ c.in-Ok-Some.ensures) c.of.ensures c.in-Some.is)

pub returns-in-None : goal.returns-in-None
returns-in-None c =
    let a = c.args in
    save_new a.archive.now a.file.now (length a.out.now) c.if-archive-gt4294967295.false _ c.in_ok-search-in-Ok-Some.ensures (ap Ok (sym c.in-Ok-Some.field-0-is) ∙ c.in-Ok-Some.ensures) c.of.ensures c.in-None.is (c.put_new.ensures ∙ ap (in_room (a.archive.now ++ record_of a.file.now)) c.clear_bytes.auto.bytes)
