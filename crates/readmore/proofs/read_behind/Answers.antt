-- `readmore::read_behind` meets its contract: the reader has the parts with the room that is left. Assumes nothing.
use Rattle.readmore.specs.More.{keeping}
use Rattle.readmore.proofs.Appending.{read-lent}
use Rattle.readmore.proofs.read_behind.Goals as goal

pub returns : goal.returns
returns c =
    let b = c.args in
    read-lent b.input.now b.nodes.now b.entries.now _ b.nesting (keeping b.keptnodes b.keptentries 0) c.requires c.node_capacity.ensures c.entry_capacity.ensures
    c.clear_behind.ensures c.clear_behind-2.ensures c.deserialize_value.ensures
