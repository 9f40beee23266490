-- `settings::rewriting::put_both` meets its contract, by the laws of this crate that it names.
-- Assumes nothing.
use mathlib.Core.Path.{sym, subst}
use Rattle.settings.proofs.Whole.{both-put, one-short}
use Rattle.settings.proofs.rewriting.put_both.Goals as goal

pub returns-in_err-kept : goal.returns-in_err-kept
returns-in_err-kept c = rw c.from_residual.ensures (one-short c.args.own.file.now c.args.changes.file.now c.in_err-kept.ensures)

pub returns : goal.returns
returns c = both-put c.args.own.file.now c.args.changes.file.now c.in_ok-kept.ensures c.put_new.ensures
