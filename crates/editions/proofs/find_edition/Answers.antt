-- `editions::find_edition` meets its contract, by the laws of this crate that it names.
-- Assumes nothing.
use mathlib.Core.Path.{◌∙◌, ap, sym}
use Rattle.std.specs.Prelude.{Ok}
use Rattle.std.proofs.lemmas.Result.{err_from_is_err_and}
use Rattle.editions.proofs.Finding.{edition_long, edition_fault, edition_found}
use Rattle.editions.proofs.find_edition.Goals as goal

pub returns-then-archive-gt4294967295 : goal.returns-then-archive-gt4294967295
returns-then-archive-gt4294967295 c = rw c.at.ensures (edition_long _ c.args.edition.now c.if-archive-gt4294967295.true)

pub returns-in_err-search : goal.returns-in_err-search
returns-in_err-search c = let p = err_from_is_err_and c.from_residual.result c.from_residual.ensures.1 in
    rw (p.1, p.2) (edition_fault _ c.args.edition.now c.if-archive-gt4294967295.false c.search.ensures c.in_err-search.was)

pub returns : goal.returns
returns c = rw (c.ok_or.ensures.value, c.at-2.ensures) (edition_found _ c.args.edition.now c.if-archive-gt4294967295.false c.search.ensures c.in_ok-search.was)
