-- `soundness::ruled` meets its contract: each class by its own tests, the class being the number that was matched.
-- Assumes nothing.
use Prim.Native.Nat.{◌≤◌}
use borrow.Author.Tests.{lt-leb, le-leb, eq-eqb, ne_eqb}
use Rattle.fields.specs.Classes.{classes, class_at}
use Rattle.stores.specs.Written.{node_of}
use Rattle.soundness.proofs.Laws.{and-true, not_kept}
use native.Mathlib.Omega.{arith}
use Rattle.soundness.proofs.ruled.Goals as goal

pub returns-then-node-ne0 : goal.returns-then-node-ne0
unfolding classes class_at
returns-then-node-ne0 c = rw (c.in-10.is, ne_eqb _ _ c.if-node-ne0.true)

pub returns-then-node-ne0-2 : goal.returns-then-node-ne0-2
unfolding classes class_at
returns-then-node-ne0-2 c = rw (c.in-11.is, ne_eqb _ _ c.if-node-ne0-2.true)

pub returns-then-node-gt255 : goal.returns-then-node-gt255
unfolding classes class_at
returns-then-node-gt255 c = rw (c.in-11.is, eq-eqb _ _ c.if-node-ne0-2.false, lt-leb _ _ c.if-node-gt255.true)

pub returns-in-9 : goal.returns-in-9
unfolding classes class_at
returns-in-9 c = rw c.in-9.is (and-true _)

pub returns-else-node-ne0 : goal.returns-else-node-ne0
unfolding classes class_at
returns-else-node-ne0 c = rw (c.in-10.is, eq-eqb _ _ c.if-node-ne0.false) c.well_formed-in-10.ensures

pub returns-else-node-gt255 : goal.returns-else-node-gt255
unfolding classes class_at
returns-else-node-gt255 c =
    rw
    (c.in-11.is, eq-eqb _ _ c.if-node-ne0-2.false, le-leb _ _ c.if-node-gt255.false)
    c.well_formed-in-11.ensures

pub returns-in-12 : goal.returns-in-12
unfolding classes class_at
returns-in-12 c = rw c.in-12.is c.code_ruled.ensures

pub returns-in_default : goal.returns-in_default
unfolding classes class_at
returns-in_default c =
    let a = c.args in
    let above : 13 ≤ a.class = omega arith in
    not_kept a.s.now (node_of a.node) a.class above
