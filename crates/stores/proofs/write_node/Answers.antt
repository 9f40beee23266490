-- `write_node` leaves the record's numbers in a row; the law of a node's stores carries it.
-- Assumes nothing.
use Rattle.stores.proofs.Records.{node-stores}
use native.Mathlib.Omega.{arith}
use Rattle.stores.specs.Written.{node_of}
use lib.ListN.{length-set}
use Rattle.stores.proofs.write_node.Goals as goal

pub bounds-nodes-base-2 : goal.bounds-nodes-base-2
bounds-nodes-base-2 c = simp length-set (omega arith)

pub bounds-nodes-base-3 : goal.bounds-nodes-base-3
bounds-nodes-base-3 c = simp length-set (omega arith)

pub bounds-nodes-base-4 : goal.bounds-nodes-base-4
bounds-nodes-base-4 c = simp length-set (omega arith)

pub bounds-nodes-base-5 : goal.bounds-nodes-base-5
bounds-nodes-base-5 c = simp length-set (omega arith)

pub bounds-nodes-base-6 : goal.bounds-nodes-base-6
bounds-nodes-base-6 c = simp length-set (omega arith)

pub bounds-nodes-base-7 : goal.bounds-nodes-base-7
bounds-nodes-base-7 c = simp length-set (omega arith)

pub returns : goal.returns
returns c = node-stores c.args.nodes.now c.args.n (node_of c.args.node)
