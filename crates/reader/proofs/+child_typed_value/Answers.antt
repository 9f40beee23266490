-- The cycle of the reader meets its contracts: the laws of Children carry each answer of a child, those of Running each turn of the loop over
-- what a node holds, those of Values each answer of a value.
use native.Mathlib.Omega.{arith}
use borrow.Author.Rules.{rules}
use mathlib.Core.Path.{refl, ap, ◌∙◌}
use Rattle.std.specs.Prelude.{Ok}
use Rattle.readsteps.specs.declared.Opened.{Opened}
use Rattle.readsteps.specs.declared.Next.{Next}
use Rattle.readleaves.proofs.Children.{child-cut, child_unfit, child-linked, attach-asks}
use Rattle.readleaves.proofs.Chains.{stands_safe}
use Rattle.readleaves.proofs.Bodies.{below_le, body_start}
use Rattle.readleaves.proofs.Running.{ran_done, ran_refused, ran_stands, ran_cut, ran_next, ran_less}
use Rattle.readleaves.proofs.Values.{head_in, inside_safe, inside-line, value-refused, value-known, value-cut, value-closed}
use Rattle.reader.proofs.+child_typed_value.Goals as goal

-- A child.

pub child-returns-in-Err : goal.child-returns-in-Err
child-returns-in-Err t c = child-cut c.requires.0 c.requires.1 c.value.ensures c.in-Err.is

pub child-returns-then-not-suits : goal.child-returns-then-not-suits
child-returns-then-not-suits t c =
    rw c.at.ensures (child_unfit c.requires.0 c.requires.1 c.value.ensures c.in-Ok.is c.suits.ensures c.if-not-suits.true)

pub child-attach-requires : goal.child-attach-requires
child-attach-requires t c = attach-asks c.requires.0 c.requires.1 c.value.ensures c.in-Ok.is c.value.auto.entries

pub child-returns : goal.child-returns
child-returns t c =
    child-linked c.requires.0 c.requires.1 c.value.ensures c.in-Ok.is c.suits.ensures c.if-not-suits.false c.value.auto.entries c.attach.ensures

-- What a node holds.

pub typed-below-below-requires : goal.typed-below-below-requires
typed-below-below-requires t c = λ q. (c.requires.3 q).0

pub typed-loop-refusal-init : goal.typed-loop-refusal-init
typed-loop-refusal-init t c = search (body_start, rules)

pub typed-run-requires : goal.typed-run-requires
typed-run-requires t c =
    let stands = c.loop-refusal.invariant.stands in
    (stands_safe c.requires.0 stands, stands.line_in, λ q. (c.requires.3 q).1)

pub typed-returns-in-Err : goal.typed-returns-in-Err
typed-returns-in-Err t c = ran_refused (λ q. (c.requires.3 q).0) c.below-below.ensures c.loop-refusal.invariant c.run.ensures c.in-Err.is

pub typed-returns-in-Ok-Done : goal.typed-returns-in-Ok-Done
typed-returns-in-Ok-Done t c =
    ran_done (λ q. (c.requires.3 q).0) c.below-below.ensures c.loop-refusal.invariant c.run.ensures (c.in-Ok-Done.is ∙ ap (λ (n : Next). Ok n) c.in-Ok-Done.field-0-is)

pub typed-child-requires : goal.typed-child-requires
typed-child-requires t c =
    let stands = ran_stands (λ q. (c.requires.3 q).0) c.below-below.ensures c.loop-refusal.invariant c.run.ensures (c.in-Ok-Child.is ∙ ap (λ (n : Next). Ok n) c.in-Ok-Child.field-0-is) in
    (omega (arith, c.decreases, c.below-below.ensures, below_le c.args.kids c.args.allowance), (stands_safe c.requires.0 stands, stands.line_in))

pub typed-returns-in-Err-child : goal.typed-returns-in-Err-child
typed-returns-in-Err-child t c =
    ran_cut (λ q. (c.requires.3 q).0) c.below-below.ensures c.loop-refusal.invariant c.run.ensures (c.in-Ok-Child.is ∙ ap (λ (n : Next). Ok n) c.in-Ok-Child.field-0-is) c.child.ensures c.in-Err-child.is

pub typed-loop-refusal-smaller : goal.typed-loop-refusal-smaller
typed-loop-refusal-smaller t c =
    ran_less (λ q. (c.requires.3 q).0) c.below-below.ensures c.loop-refusal.invariant c.run.ensures (c.in-Ok-Child.is ∙ ap (λ (n : Next). Ok n) c.in-Ok-Child.field-0-is) c.child.ensures c.in-Ok.is

pub typed-loop-refusal-preserved : goal.typed-loop-refusal-preserved
typed-loop-refusal-preserved t c =
    ran_next (λ q. (c.requires.3 q).0) c.below-below.ensures c.loop-refusal.invariant c.run.ensures (c.in-Ok-Child.is ∙ ap (λ (n : Next). Ok n) c.in-Ok-Child.field-0-is) c.child.ensures c.in-Ok.is
    c.child.auto.nodes c.child.auto.entries c.child.auto.slots

-- A value.

pub value-overflow_add-inside : goal.value-overflow_add-inside
value-overflow_add-inside t c = omega (arith, c.requires, head_in c.front.ensures (c.in-Ok-Node.is ∙ ap (λ (o : Opened). Ok o) c.in-Ok-Node.field-0-is))

pub value-overflow_add-inside-in-Ok-Node-2 : goal.value-overflow_add-inside-in-Ok-Node-2
value-overflow_add-inside-in-Ok-Node-2 t c = omega (arith, c.requires, head_in c.front.ensures (c.in-Ok-Node.is ∙ ap (λ (o : Opened). Ok o) c.in-Ok-Node.field-0-is))

pub value-overflow_sub-allowance : goal.value-overflow_sub-allowance
value-overflow_sub-allowance t c = (head_in c.front.ensures (c.in-Ok-Node.is ∙ ap (λ (o : Opened). Ok o) c.in-Ok-Node.field-0-is)).level

pub value-typed-requires : goal.value-typed-requires
value-typed-requires t c =
    let head = head_in c.front.ensures (c.in-Ok-Node.is ∙ ap (λ (o : Opened). Ok o) c.in-Ok-Node.field-0-is) in (
      omega (arith, head.level, c.decreases),
      (
        inside_safe c.requires c.front.ensures (c.in-Ok-Node.is ∙ ap (λ (o : Opened). Ok o) c.in-Ok-Node.field-0-is),
        inside-line c.requires c.front.ensures (c.in-Ok-Node.is ∙ ap (λ (o : Opened). Ok o) c.in-Ok-Node.field-0-is),
        refl,
        (λ q. (omega (arith, (head.code q).2), omega (arith, (head.code q).0, (head.code q).1, head.within))),
      ),
    )

pub value-byte_at-byte-requires : goal.value-byte_at-byte-requires
value-byte_at-byte-requires t c = omega (arith, head_in c.front.ensures (c.in-Ok-Node.is ∙ ap (λ (o : Opened). Ok o) c.in-Ok-Node.field-0-is))

pub value-fill_slot-requires : goal.value-fill_slot-requires
value-fill_slot-requires t c =
    let head = head_in c.front.ensures (c.in-Ok-Node.is ∙ ap (λ (o : Opened). Ok o) c.in-Ok-Node.field-0-is) in
    (omega (arith, c.byte_at-byte.ensures, c.requires, head, c.typed.auto.slots), omega (arith, c.byte_at-byte.ensures, c.requires, head))

pub value-write_node-requires : goal.value-write_node-requires
value-write_node-requires t c = omega (arith, c.requires, head_in c.front.ensures (c.in-Ok-Node.is ∙ ap (λ (o : Opened). Ok o) c.in-Ok-Node.field-0-is), c.typed.auto.nodes)

pub value-returns-in-Err : goal.value-returns-in-Err
value-returns-in-Err t c = value-refused c.front.ensures c.in-Err.is

pub value-returns-in-Ok-Known : goal.value-returns-in-Ok-Known
value-returns-in-Ok-Known t c = value-known c.front.ensures c.requires (c.in-Ok-Known.is ∙ ap (λ (o : Opened). Ok o) c.in-Ok-Known.field-0-is)

pub value-returns-in-Err-typed : goal.value-returns-in-Err-typed
value-returns-in-Err-typed t c =
    value-cut c.requires c.front.ensures (c.in-Ok-Node.is ∙ ap (λ (o : Opened). Ok o) c.in-Ok-Node.field-0-is) c.typed.ensures c.in-Err-typed.is

pub value-returns-in-Ok : goal.value-returns-in-Ok
value-returns-in-Ok t c =
    value-closed c.requires c.front.ensures (c.in-Ok-Node.is ∙ ap (λ (o : Opened). Ok o) c.in-Ok-Node.field-0-is) c.typed.ensures c.in-Ok.is c.node_size-size.ensures c.byte_at-byte.ensures.0
    c.write_node.ensures c.fill_slot.ensures
