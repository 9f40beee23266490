-- `gather_firsts` meets its contract by the laws cited here. Assumes nothing.
use mathlib.Core.Path.{◌∙◌}
use native.Mathlib.Omega.{arith}
use Rattle.keepmove.proofs.Gathering.{all_stored}
use Rattle.keepmove.proofs.Laying.{length_firsts}
use Rattle.keepmove.proofs.Containers.{firsts_room, firsts_more, firsts_done}
use Rattle.keepmove.proofs.gather_firsts.Goals as goal

pub loop-i-init : goal.loop-i-init
loop-i-init c =
    let a = c.args in
    record { comes = all_stored _ _ (length_firsts a.nodes.now 0 a.order.now ∙ c.requires.0); same = c.requires.0; left = omega arith }

pub overflow_add-at : goal.overflow_add-at
overflow_add-at c = omega (arith, c.requires, firsts_room c.loop-i.invariant c.loop-i-test.true c.count_of-count.ensures)

pub loop-i-preserved : goal.loop-i-preserved
loop-i-preserved c = firsts_more c.loop-i.invariant c.loop-i-test.true c.count_of-count.ensures c.first_at.ensures

pub returns : goal.returns
returns c = firsts_done c.loop-i.invariant c.loop-i-test.false
