-- Carried by `Walking`: what is left of the chain still comes to the same. Assumes nothing.
use mathlib.Core.Path.{◌≡◌, ◌∙◌}
use mathlib.Core.Bool.{◌&&◌, and-true, and-false}
use Rattle.nodespan.proofs.Walks.{walk_start, walk-no_entry, walk-no_node, walk_more, walk_end}
use Rattle.nodespan.proofs.walk.Goals as goal
use Rattle.nodespan.proofs.walk.Goals.{then-inside, else-inside}

pub loop-i-init : goal.loop-i-init
loop-i-init c = walk_start _ _ _

pub returns-then-b-e : goal.returns-then-b-e
returns-then-b-e c = walk-no_entry _ _ _ c.loop-i.invariant c.loop-i-test.true c.if-b-e.true

pub returns-then-b-child : goal.returns-then-b-child
returns-then-b-child c = walk-no_node _ _ _ c.loop-i.invariant c.loop-i-test.true c.if-b-e.false c.child_of-child.result c.child_of-child.ensures c.if-b-child.true

pub loop-i-preserved : goal.loop-i-preserved
loop-i-preserved c =
    let all : c.if-inside.all ≡ (c.loop-i.all && c.inside.result) =
    elim c.if-inside.branch [
      | then-inside w ↦ rw (w.if-inside.true, and-true) w.all-is
      | else-inside w ↦ rw (w.if-inside.false, and-false) (w.all-is ∙ w.if-inside.false)
    ] in
    walk_more _ _ _ c.loop-i.invariant c.loop-i-test.true c.if-b-e.false c.child_of-child.result c.child_of-child.ensures c.if-b-child.false c.inside.ensures all c.next_of-e.ensures

pub returns : goal.returns
returns c = walk_end _ _ _ c.loop-i.invariant c.loop-i-test.false
