-- `lay` meets its contract by the laws cited here. Assumes nothing.
use Rattle.keepmove.proofs.Gathering.{laying_more, laying_done}
use native.Mathlib.Omega.{arith}
use mathlib.Core.Path.{refl}
use borrow.Author.Rules.{rules}
use Rattle.keepmove.proofs.lay.Goals as goal

pub loop-i-init : goal.loop-i-init
loop-i-init c = (record { comes = refl; same = refl }, omega arith)

pub loop-i-preserved : goal.loop-i-preserved
loop-i-preserved c = search (laying_more, rules)

pub returns : goal.returns
returns c = search (laying_done, rules)
