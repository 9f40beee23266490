-- Carried by `Rowing`: the children that are left are still to come, and none that was done is done again. Assumes nothing.
use Rattle.underway.proofs.Under.{opens, row-turn, row_more, row-refused, row-entry}
use Rattle.writeleaves.proofs.Leading.{row_starts, led_on, led_refused, led_left, rows_on, rows_all, rows-refused}
use Rattle.writecheck.specs.Looking.{lent_of}
use native.Mathlib.Omega.{arith}
use Rattle.std.proofs.Common.{rules, ◌≡◌, Ok, Err}
use mathlib.Core.Path.{refl, ap, ◌∙◌}
use Rattle.writeleaves.proofs.write_leaves.Goals as goal

pub loop-i-init : goal.loop-i-init
loop-i-init c =
    let a = c.args in
    let t = lent_of a.values.now.lent in
    (row_starts t a.allowance a.count c.requires.1 c.requires.2 c.requires.0.inside, omega arith)

pub child_at-child-requires : goal.child_at-child-requires
child_at-child-requires c = row-entry c.loop-i.invariant.0 c.loop-i-test.true

pub write_leaf-requires : goal.write_leaf-requires
write_leaf-requires c = opens c.loop-i.invariant.0.way c.requires.0.counts

pub returns-in-None : goal.returns-in-None
returns-in-None c =
    let a = c.args in
    let t = lent_of a.values.now.lent in
    rows_on t a.allowance a.count c.loop-i.invariant.0 c.loop-i.invariant.1 (led_left a.values.now.lent.entries.now c.write_leaf.ensures (c.in_ok-write_leaf.was ∙ ap Ok c.in-None.is))

pub returns-in_err-write_leaf : goal.returns-in_err-write_leaf
returns-in_err-write_leaf c =
    let a = c.args in
    let t = lent_of a.values.now.lent in
    let passed : c.from_residual.result ≡ Err c.in_err-write_leaf.field-0.0 = search rules in
    rw passed (rows-refused t a.allowance a.count
    (row-refused (row-turn c.loop-i.invariant.0 c.loop-i-test.true c.child_at-child.ensures) (led_refused a.values.now.lent.entries.now c.write_leaf.ensures c.in_err-write_leaf.was) refl))

pub next_at-entry-requires : goal.next_at-entry-requires
next_at-entry-requires c = row-entry c.loop-i.invariant.0 c.loop-i-test.true

pub loop-i-preserved : goal.loop-i-preserved
loop-i-preserved c =
    let a = c.args in (
      row_more (row-turn c.loop-i.invariant.0 c.loop-i-test.true c.child_at-child.ensures) (λ vs h. tt) c.loop-i-test.true c.next_at-entry.ensures
          (led_on a.values.now.lent.entries.now c.write_leaf.ensures (c.in_ok-write_leaf.was ∙ ap Ok c.in-Some.is)) refl,
      omega (arith, c.loop-i.invariant.1),
    )

pub returns : goal.returns
returns c =
    let a = c.args in
    let t = lent_of a.values.now.lent in
    rows_all t a.allowance a.count c.loop-i.invariant.0 (omega arith) (omega arith)
