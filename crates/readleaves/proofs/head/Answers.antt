-- `head` takes a node that has no children.
-- Assumes nothing.
use Rattle.readleaves.proofs.Fronts.{leaf_opened, leaf_other}
use Rattle.readleaves.proofs.head.Goals as goal

pub returns-in_err-behind : goal.returns-in_err-behind
returns-in_err-behind c = rw c.from_residual.ensures leaf_other

pub returns-else-count-ne0 : goal.returns-else-count-ne0
returns-else-count-ne0 c = leaf_opened c.read_leaf.ensures c.in_ok-behind.was c.in-Items.is c.if-count-ne0.false
