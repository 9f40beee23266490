-- Carried by `Asking`: what is left of the question still comes to the same. Assumes nothing.
use mathlib.Core.Path.{◌≡◌, sym, refl, ap, ◌∙◌}
use mathlib.Core.Bool.{◌&&◌, and-true, and-false}
use Rattle.std.specs.Prelude.{Err}
use Rattle.nodespan.specs.Walk.{bounded}
use Rattle.nodespan.proofs.Walks.{ask_start, ask_fails, ask_more, ask_end, visit-few}
use Rattle.nodespan.proofs.closed.Goals as goal
use Rattle.nodespan.proofs.closed.Goals.{then-walked, else-walked}

pub loop-node-init : goal.loop-node-init
loop-node-init c = ask_start _ _ _

pub returns-in-None : goal.returns-in-None
returns-in-None c = ap Err c.at.ensures ∙ ask_fails _ _ _ c.loop-node.invariant c.loop-node-test.true (sym c.in-None.is ∙ c.visit.ensures)

pub overflow_sub-steps : goal.overflow_sub-steps
overflow_sub-steps c =
    let a = c.args in
    visit-few (bounded a.nodes.now a.entries.now a.b) c.loop-node.steps c.loop-node.node (sym c.in-Some.is ∙ c.visit.ensures)

pub loop-node-preserved : goal.loop-node-preserved
loop-node-preserved c =
    let all : c.if-walked.all ≡ (c.loop-node.all && c.in-Some.walked.all) =
    elim c.if-walked.branch [
      | then-walked w ↦ rw (w.if-walked.true, and-true) w.all-is
      | else-walked w ↦ rw (w.if-walked.false, and-false) (w.all-is ∙ w.if-walked.false)
    ] in
    ask_more _ _ _ c.loop-node.invariant c.loop-node-test.true (sym c.in-Some.is ∙ c.visit.ensures) refl all

pub returns : goal.returns
returns c = ask_end _ _ _ c.loop-node.invariant c.loop-node-test.false
