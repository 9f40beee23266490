-- `move_three` meets its contract by the laws cited here. Assumes nothing.
use Rattle.keepmove.proofs.Moving.{three-moved}
use Rattle.keepmove.proofs.move_three.Goals as goal

pub returns : goal.returns
returns c = three-moved c.args.nodes.now c.args.order.now c.args.column c.move_column.ensures c.move_column-2.ensures c.move_column-3.ensures c.requires.1
