-- `settings::find_setting` meets its contract, by the laws of this crate that it names.
-- Assumes nothing.
use mathlib.Core.Path.{◌∙◌, ap, sym}
use Rattle.std.specs.Prelude.{Ok}
use Rattle.std.proofs.lemmas.Result.{err_from_is_err_and}
use Rattle.settings.proofs.Lookups.{own_fault, default_fault, own_found, default_found, in_neither}
use Rattle.settings.proofs.find_setting.Goals as goal

pub returns-in_err-a : goal.returns-in_err-a
returns-in_err-a c = let p = err_from_is_err_and c.from_residual.result c.from_residual.ensures.1 in rw (p.1, p.2) (own_fault _ _ c.args.tag c.in_err-a.ensures)

pub returns-in_err-b : goal.returns-in_err-b
returns-in_err-b c = let p = err_from_is_err_and c.from_residual-in_err-b.result c.from_residual-in_err-b.ensures.1 in rw (p.1, p.2) (default_fault _ _ c.args.tag c.in_ok-a.ensures c.in_err-b.ensures)

pub returns-in-Some-default : goal.returns-in-Some-default
returns-in-Some-default c = own_found _ _ _ (ap Ok (sym c.in-Some-default.is-0) ∙ c.in_ok-a.ensures) c.in_ok-b.ensures

pub returns-in-None-Some : goal.returns-in-None-Some
returns-in-None-Some c = default_found _ _ _ (ap Ok (sym c.in-None-Some.is-0) ∙ c.in_ok-a.ensures) (ap Ok (sym c.in-None-Some.is-1) ∙ c.in_ok-b.ensures)

pub returns-in-None-None : goal.returns-in-None-None
returns-in-None-None c = rw c.at.ensures (in_neither _ _ c.args.tag (ap Ok (sym c.in-None-None.is-0) ∙ c.in_ok-a.ensures) (ap Ok (sym c.in-None-None.is-1) ∙ c.in_ok-b.ensures))
