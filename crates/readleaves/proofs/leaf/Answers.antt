-- `leaf` reads what `front` takes; a law of Leaves for each way out.
use mathlib.Core.Path.{ap, ◌∙◌}
use native.Mathlib.Omega.{arith}
use Rattle.std.specs.Prelude.{Some}
use Rattle.readleaves.specs.declared.Plain.{Plain}
use Rattle.readleaves.proofs.Leaves.{leaf_head, takes_none, takes_known, takes_leaf}
use Rattle.readleaves.proofs.leaf.Goals as goal

pub overflow_add-walk-in-Leaf : goal.overflow_add-walk-in-Leaf
overflow_add-walk-in-Leaf c = omega (arith, c.requires, leaf_head c.front.ensures (c.in_ok-node.was ∙ ap (λ (p : Plain). Some p) c.in-Leaf.is))

pub overflow_add-walk-in-Leaf-2 : goal.overflow_add-walk-in-Leaf-2
overflow_add-walk-in-Leaf-2 c = omega (arith, c.requires, leaf_head c.front.ensures (c.in_ok-node.was ∙ ap (λ (p : Plain). Some p) c.in-Leaf.is))

pub fill_slot-requires : goal.fill_slot-requires
fill_slot-requires c =
    let head = leaf_head c.front.ensures (c.in_ok-node.was ∙ ap (λ (p : Plain). Some p) c.in-Leaf.is) in
    (omega (arith, c.requires, head), omega (arith, c.requires, head))

pub write_node-requires : goal.write_node-requires
write_node-requires c = omega (arith, c.requires, leaf_head c.front.ensures (c.in_ok-node.was ∙ ap (λ (p : Plain). Some p) c.in-Leaf.is))

pub returns-in_err-node : goal.returns-in_err-node
returns-in_err-node c = rw c.from_residual.ensures takes_none

pub returns-in-Known : goal.returns-in-Known
returns-in-Known c = takes_known c.front.ensures (c.in_ok-node.was ∙ ap (λ (p : Plain). Some p) c.in-Known.is)

pub returns-in-Leaf : goal.returns-in-Leaf
returns-in-Leaf c =
    takes_leaf c.front.ensures (c.in_ok-node.was ∙ ap (λ (p : Plain). Some p) c.in-Leaf.is) c.write_node.ensures c.fill_slot.ensures
