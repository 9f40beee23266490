-- `new_of` meets its contract by the laws cited here. Assumes nothing.
use Rattle.keepmove.proofs.Gathering.{new_beyond, new_none, new_some}
use borrow.Author.Rules.{rules}
use Rattle.keepmove.proofs.new_of.Goals as goal

pub returns-then-bound-n : goal.returns-then-bound-n
returns-then-bound-n c = search (new_beyond, rules)

pub returns-then-rank-eq0 : goal.returns-then-rank-eq0
returns-then-rank-eq0 c = search (new_none, rules)

pub returns : goal.returns
returns c = search (new_some, rules)
