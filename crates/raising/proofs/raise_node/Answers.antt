-- `raising::raise_node` meets its contract: what is read is written, relabelled. Assumes nothing.
use Rattle.raising.proofs.Turns.{node-relabelled}
use Rattle.raising.proofs.raise_node.Goals as goal

pub returns : goal.returns
returns c =
    let b = c.args in
    node-relabelled b.nodes.now b.n b.kept b.number c.node_at-read.ensures c.raised.ensures c.write_node.ensures
