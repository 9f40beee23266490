-- Carried by `Fitting`: the parts that are left still tell the same. Assumes nothing.
use Rattle.writecheck.proofs.Codes.{fitting_none, fitting_not, fitting_more, fitting_all}
use Rattle.writecheck.specs.Looking.{lent_of}
use native.Mathlib.Omega.{arith}
use Rattle.writecheck.proofs.parts_fit.Goals as goal

pub loop-part-init : goal.loop-part-init
loop-part-init c = fitting_none _ _

pub returns-then-not-part_fits : goal.returns-then-not-part_fits
returns-then-not-part_fits c =
    let a = c.args in
    let t = lent_of a.values.now.lent in
    fitting_not t a.first c.loop-part.part c.loop-part.e c.child_of.result c.loop-part.invariant c.loop-part-test.true c.child_of.ensures c.part_fits.ensures c.if-not-part_fits.true

pub loop-part-preserved : goal.loop-part-preserved
loop-part-preserved c =
    let a = c.args in
    let t = lent_of a.values.now.lent in
    fitting_more t a.first c.loop-part.part c.loop-part.e c.next_of-e.result c.child_of.result c.loop-part.invariant c.loop-part-test.true c.child_of.ensures c.part_fits.ensures c.if-not-part_fits.false c.next_of-e.ensures

pub returns : goal.returns
returns c = fitting_all (lent_of c.args.values.now.lent) c.args.first c.loop-part.part c.loop-part.e c.loop-part.invariant (omega arith)
