-- `none_rises` meets its contract by the laws cited here. Assumes nothing.
use Rattle.keepmove.proofs.Descending.{none_yet, none_more, none_at_all}
use borrow.Author.Rules.{rules}
use Rattle.keepmove.proofs.none_rises.Goals as goal

pub loop-i-init : goal.loop-i-init
loop-i-init c = none_yet

pub loop-i-preserved : goal.loop-i-preserved
loop-i-preserved c = search (none_more, rules)

pub returns : goal.returns
returns c = none_at_all c.loop-i.invariant c.loop-i-test.false
