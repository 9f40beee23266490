-- `leaf_child` reads a plain child as `child` does; a law of Leaves for each way out.
use Rattle.readleaves.proofs.Leaves.{leaf_attach-asks, tries_unfit, tries_cut, tries_line}
use Rattle.readleaves.proofs.leaf_child.Goals as goal

pub returns-then-not-suits : goal.returns-then-not-suits
returns-then-not-suits c = tries_unfit c.requires.0 c.requires.1 c.leaf.ensures c.in-Some.is c.suits.ensures c.if-not-suits.true c.at.ensures

pub attach-requires : goal.attach-requires
attach-requires c = leaf_attach-asks c.requires.0 c.requires.1 c.leaf.ensures c.in-Some.is

pub returns-in-Err : goal.returns-in-Err
returns-in-Err c = tries_cut c.requires.0 c.requires.1 c.leaf.ensures c.in-Some.is c.suits.ensures c.if-not-suits.false c.attach.ensures c.in-Err.is

pub returns-in-Ok : goal.returns-in-Ok
returns-in-Ok c =
    tries_line c.requires.0 c.requires.1 c.leaf.ensures c.in-Some.is c.suits.ensures c.if-not-suits.false c.attach.ensures c.in-Ok.is
