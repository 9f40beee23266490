-- The three tests, in order. Assumes nothing.
use borrow.Author.Tests.{lt-leb, le-leb}
use Rattle.nodespan.specs.Header as definition
use Rattle.nodespan.proofs.spanned.Goals as goal

pub returns-then-node-lead_of : goal.returns-then-node-lead_of
unfolding definition.spanned
returns-then-node-lead_of c = rw (← c.lead_of.ensures, lt-leb _ _ c.if-node-lead_of.true)

pub returns-then-node-own_size : goal.returns-then-node-own_size
unfolding definition.spanned
returns-then-node-own_size c = rw (← c.lead_of.ensures, le-leb _ _ c.if-node-lead_of.false, ← c.own_size.ensures.0, lt-leb _ _ c.if-node-own_size.true)

pub returns : goal.returns
unfolding definition.spanned
returns c = rw (← c.lead_of.ensures, le-leb _ _ c.if-node-lead_of.false, ← c.own_size.ensures.0, le-leb _ _ c.if-node-own_size.false)
