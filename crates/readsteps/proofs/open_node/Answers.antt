-- `open_node` tests a code's body for its level and reads the fields; a law of Fronts for each way out.
-- Assumes nothing.
use Rattle.readsteps.proofs.Fronts.{node-deep, node-cut, node-opened}
use borrow.Author.Rules.{rules}
use Rattle.readsteps.proofs.open_node.Goals as goal

pub returns-then-allowance-levels : goal.returns-then-allowance-levels
returns-then-allowance-levels c = search (node-deep, rules)

pub returns-in-Err : goal.returns-in-Err
returns-in-Err c = node-cut c.requires.1 c.levels.ensures c.if-allowance-levels.false c.read_fields.ensures c.in-Err.is

pub returns-in-Ok : goal.returns-in-Ok
returns-in-Ok c = node-opened c.requires.1 c.levels.ensures c.if-allowance-levels.false c.read_fields.ensures c.in-Ok.is
