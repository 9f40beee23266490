-- The node is in the store and a level is left, so its writing is its own bytes. Assumes nothing.
use Rattle.writeleaves.proofs.Leafing.{leaf_held}
use native.Mathlib.Omega.{arith}
use Rattle.writeleaves.proofs.leaf_at.Goals as goal

-- src/lib.rt:450:1
pub returns : goal.returns
returns c =
    let a = c.args in
    leaf_held a.values.now.lent.input.now a.values.now.lent.nodes.now a.values.now.lent.used a.allowance a.node (omega arith) (omega (arith, c.nodes_in.ensures)) c.node_at.ensures c.leaf_of.ensures
