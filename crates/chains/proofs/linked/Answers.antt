-- Carried by `Walking`: what is left of the walk still tells the same; entries that are linked straight ahead are walked already.
-- Assumes nothing.
use Rattle.chains.proofs.Chains.{walk-stop, walk_more, walk_end, straight_fits, straight_walk, outside, within-room, linked_is}
use native.Mathlib.Omega.{arith}
use borrow.Author.Rules.{rules}
use Rattle.chains.proofs.linked.Goals as goal

pub straight-ahead-requires : goal.straight-ahead-requires
straight-ahead-requires c = (omega (arith, c.entries_in-room.ensures.0), c.entries_in-room.ensures.1)

pub overflow_add-e : goal.overflow_add-e
overflow_add-e c = search (straight_fits c.straight-ahead.ensures c.entries_in-room.ensures.1 (omega arith), rules)

pub loop-init : goal.loop-init
loop-init c = straight_walk c.args.used c.entries_in-room.ensures.0 c.straight-ahead.ensures

pub returns-then-room-e : goal.returns-then-room-e
returns-then-room-e c =
    let a = c.args in
    linked_is a.entries.now a.used a.count a.first c.entries_in-room.ensures.0 c.at_most-steps.ensures
    (walk-stop _ _ _ _ c.loop.invariant c.loop-test.true (outside a.entries.now a.used c.loop.e c.entries_in-room.ensures.0 (omega arith)))

pub loop-preserved : goal.loop-preserved
loop-preserved c =
    let a = c.args in
    walk_more _ _ _ _ c.loop.invariant c.loop-test.true (within-room a.entries.now a.used c.loop.e c.entries_in-room.ensures.0 (omega arith)) c.next_at-e.ensures

pub returns : goal.returns
returns c =
    let a = c.args in
    linked_is a.entries.now a.used a.count a.first c.entries_in-room.ensures.0 c.at_most-steps.ensures (walk_end _ _ _ _ c.loop.invariant (omega arith))
