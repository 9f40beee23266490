-- `run` keeps what holds at the head of the reader's loop; a law of Running for each way out and for the turn.
use mathlib.Core.Path.{ap, ◌∙◌}
use Rattle.std.specs.Prelude.{Ok, Option}
use Rattle.readsteps.specs.declared.Next.{Next}
use Rattle.readsteps.specs.declared.Line.{Line}
use Rattle.readleaves.proofs.Chains.{stands_safe}
use Rattle.readleaves.proofs.Running.{running_start, run-done, run-refused, run-stands, run_left, run-cut, run_less, run_next}
use borrow.Author.Rules.{rules}
use Rattle.readleaves.proofs.run.Goals as goal

pub loop-refusal-init : goal.loop-refusal-init
loop-refusal-init c = search (running_start, rules)

pub next_child-requires : goal.next_child-requires
next_child-requires c = ((stands_safe c.requires.0 c.loop-refusal.invariant.stands).at, c.requires.0.input, c.requires.2)

pub returns-in-Err : goal.returns-in-Err
returns-in-Err c = run-refused c.loop-refusal.invariant c.next_child.ensures c.in-Err.is

pub returns-in-Ok-Done : goal.returns-in-Ok-Done
returns-in-Ok-Done c = run-done c.loop-refusal.invariant c.next_child.ensures (c.in-Ok-Done.is ∙ ap (λ (n : Next). Ok n) c.in-Ok-Done.field-0-is)

pub leaf_child-requires : goal.leaf_child-requires
leaf_child-requires c =
    let stands = run-stands c.loop-refusal.invariant c.next_child.ensures (c.in-Ok-Child.is ∙ ap (λ (n : Next). Ok n) c.in-Ok-Child.field-0-is) in
    (stands_safe c.requires.0 stands, stands.line_in)

pub returns-in-Ok-None : goal.returns-in-Ok-None
returns-in-Ok-None c =
    run_left c.loop-refusal.invariant c.next_child.ensures (c.in-Ok-Child.is ∙ ap (λ (n : Next). Ok n) c.in-Ok-Child.field-0-is) c.leaf_child.ensures
    (c.in-Ok-None.is ∙ ap (λ (n : Option Line). Ok n) c.in-Ok-None.field-0-is)

pub returns-in-Err-leaf_child : goal.returns-in-Err-leaf_child
returns-in-Err-leaf_child c = run-cut c.loop-refusal.invariant c.next_child.ensures (c.in-Ok-Child.is ∙ ap (λ (n : Next). Ok n) c.in-Ok-Child.field-0-is) c.leaf_child.ensures c.in-Err-leaf_child.is

pub loop-refusal-smaller : goal.loop-refusal-smaller
loop-refusal-smaller c =
    run_less c.loop-refusal.invariant c.next_child.ensures (c.in-Ok-Child.is ∙ ap (λ (n : Next). Ok n) c.in-Ok-Child.field-0-is) c.leaf_child.ensures
    (c.in-Ok-Some.is ∙ ap (λ (n : Option Line). Ok n) c.in-Ok-Some.field-0-is)

pub loop-refusal-preserved : goal.loop-refusal-preserved
loop-refusal-preserved c =
    run_next c.loop-refusal.invariant c.next_child.ensures (c.in-Ok-Child.is ∙ ap (λ (n : Next). Ok n) c.in-Ok-Child.field-0-is) c.leaf_child.ensures
    (c.in-Ok-Some.is ∙ ap (λ (n : Option Line). Ok n) c.in-Ok-Some.field-0-is)
    c.leaf_child.auto.nodes c.leaf_child.auto.entries c.leaf_child.auto.slots
