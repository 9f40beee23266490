-- Carried by `Walking` over sound strings. Assumes nothing.
use Rattle.chains.proofs.Chains.{walk_start, walk-stop, walk_more, walk_end, spelt_outside, spelt_as, named_are}
use Rattle.writecheck.specs.Looking.{lent_of}
use native.Mathlib.Omega.{arith}
use mathlib.Core.Path.{◌∙◌}
use Rattle.writecheck.proofs.named.Goals as goal

pub loop-init : goal.loop-init
loop-init c = walk_start _ _ _ _

pub returns-then-room-e : goal.returns-then-room-e
returns-then-room-e c =
    let a = c.args in
    let t = lent_of a.values.now.lent in
    let entries_in_lem = c.entries_in-room.ensures.0 in
    named_are t a.count a.first entries_in_lem c.at_most-steps.ensures (walk-stop _ _ _ _ c.loop.invariant c.loop-test.true (spelt_outside t c.loop.e entries_in_lem (omega arith)))

pub returns-then-not-string_at : goal.returns-then-not-string_at
returns-then-not-string_at c =
    let a = c.args in
    let t = lent_of a.values.now.lent in
    let entries_in_lem = c.entries_in-room.ensures.0 in
    named_are t a.count a.first entries_in_lem c.at_most-steps.ensures (walk-stop _ _ _ _ c.loop.invariant c.loop-test.true (spelt_as t c.loop.e entries_in_lem (omega arith) c.child_of.result c.child_of.ensures c.string_at.ensures ∙ c.if-not-string_at.true))

pub loop-preserved : goal.loop-preserved
loop-preserved c =
    let a = c.args in
    let t = lent_of a.values.now.lent in
    walk_more _ _ _ _ c.loop.invariant c.loop-test.true (spelt_as t c.loop.e c.entries_in-room.ensures.0 (omega arith) c.child_of.result c.child_of.ensures c.string_at.ensures ∙ c.if-not-string_at.false) c.next_of-e.ensures

pub returns : goal.returns
returns c =
    let a = c.args in
    let t = lent_of a.values.now.lent in
    named_are t a.count a.first c.entries_in-room.ensures.0 c.at_most-steps.ensures (walk_end _ _ _ _ c.loop.invariant (omega arith))
