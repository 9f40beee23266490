-- `readmore::turned_away` meets its contract: one test after another. Assumes nothing.
use Rattle.readmore.specs.More.{keeping}
use Rattle.readmore.proofs.Appending.{away_long, away_nodes, away_entries, away_none}
use Rattle.readmore.proofs.turned_away.Goals as goal

pub returns-then-bytes : goal.returns-then-bytes
returns-then-bytes c = let b = c.args in away_long b.bytes _ _ (keeping b.keptnodes b.keptentries 0) c.if-bytes.true

pub returns-then-node_capacity-keptnodes : goal.returns-then-node_capacity-keptnodes
returns-then-node_capacity-keptnodes c =
    let b = c.args in
    away_nodes b.bytes _ _ (keeping b.keptnodes b.keptentries 0) c.if-bytes.false c.node_capacity.ensures c.if-node_capacity-keptnodes.true

pub returns-then-entry_capacity-keptentries : goal.returns-then-entry_capacity-keptentries
returns-then-entry_capacity-keptentries c =
    let b = c.args in
    away_entries b.bytes _ _ (keeping b.keptnodes b.keptentries 0) c.if-bytes.false c.node_capacity.ensures c.if-node_capacity-keptnodes.false c.entry_capacity.ensures c.if-entry_capacity-keptentries.true

pub returns : goal.returns
returns c =
    let b = c.args in
    away_none b.bytes _ _ (keeping b.keptnodes b.keptentries 0) c.if-bytes.false c.node_capacity.ensures c.if-node_capacity-keptnodes.false c.entry_capacity.ensures c.if-entry_capacity-keptentries.false
