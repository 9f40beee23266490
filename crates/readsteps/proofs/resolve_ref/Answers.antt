-- `resolve_ref` is the definition's reference; a law of Links for each way out.
-- Assumes nothing.
use Rattle.readsteps.proofs.Links.{ref_cut, ref_open, ref_known}
use borrow.Author.Rules.{rules}
use Rattle.readsteps.proofs.resolve_ref.Goals as goal

pub returns-then-from-p : goal.returns-then-from-p
returns-then-from-p c = search (ref_cut, rules)

pub returns-then-stored-eq0 : goal.returns-then-stored-eq0
returns-then-stored-eq0 c = search (ref_open, rules)

pub returns : goal.returns
returns c = search (ref_known, rules)
