-- `reference` takes what `resolve_ref` knows.
-- Assumes nothing.
use Rattle.readleaves.proofs.Fronts.{refers-known, refers-other}
use borrow.Author.Rules.{rules}
use Rattle.readleaves.proofs.reference.Goals as goal

pub returns-in-Ok-Known : goal.returns-in-Ok-Known
returns-in-Ok-Known c = search (refers-known, rules)

pub returns-in_default : goal.returns-in_default
returns-in_default c = refers-other
