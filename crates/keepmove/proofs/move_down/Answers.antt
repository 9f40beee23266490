-- `move_down` meets its contract by the laws cited here. Assumes nothing.
use Rattle.keepmove.proofs.Descending.{down_start, down-room, down_more, down-done}
use mathlib.Core.Path.{ap}
use native.Mathlib.Omega.{arith}
use lib.ListN.{length}
use lib.Seq.{take_all}
use Rattle.keepmove.specs.Laid.{total}
use Rattle.keepmove.proofs.move_down.Goals as goal

pub loop-i-init : goal.loop-i-init
loop-i-init c = down_start

pub overflow_add-at : goal.overflow_add-at
overflow_add-at c =
    let a = c.args in
    let k = down-room c.loop-i.invariant (omega arith) c.requires.0 (omega arith) (ap (λ x. x.count) c.node_of-node.ensures) in
    omega (arith, c.requires.1, k, ap (total a.nodes.now) (take_all (length a.order.now) a.order.now (omega arith)))

pub loop-i-preserved : goal.loop-i-preserved
loop-i-preserved c =
    down_more c.loop-i.invariant c.node_of-node.result (omega arith) c.requires.0 c.requires.2 (omega arith) c.node_of-node.ensures
    c.first_at.ensures c.write_node.ensures

pub returns : goal.returns
returns c = down-done c.loop-i.invariant (omega arith)
