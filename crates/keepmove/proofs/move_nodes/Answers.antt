-- `move_nodes` meets its contract by the laws cited here. Assumes nothing.
use Rattle.keepmove.proofs.Moving.{nodes-moved}
use Rattle.keepmove.proofs.Descending.{down_zeroed}
use Rattle.keepmove.proofs.move_nodes.Goals as goal

pub move_down-requires : goal.move_down-requires
move_down-requires c = (c.none_rises.ensures.none c.if-none_rises.true, c.requires.1, c.requires.2, c.requires.3)

pub returns-then-none_rises : goal.returns-then-none_rises
returns-then-none_rises c = down_zeroed c.move_down.ensures c.zero_from.ensures c.requires.2

pub returns : goal.returns
returns c = nodes-moved c.args.nodes.now c.args.order.now c.move_firsts.ensures c.move_three.ensures c.move_three-2.ensures c.zero_from-2.ensures c.requires.2
