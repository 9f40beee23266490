-- `rows::walk_row` meets its contract: the loop's invariant is that what is left still comes to the same summary, and each way out of
-- a turn is a law of proofs/Going.
use mathlib.Core.Path.{sym, ◌∙◌}
use native.Mathlib.Omega.{arith}
use Rattle.lineentry.proofs.Entries.{entry-places}
use Rattle.rows.proofs.Going.{going_start, ends_out, ends-stop, ends-cut, ends-past, ends_all, goes_on}
use Rattle.rows.proofs.walk_row.Goals as goal

pub loop-left-init : goal.loop-left-init
loop-left-init c = going_start _ _ _

pub returns-in-OutOfRange : goal.returns-in-OutOfRange
returns-in-OutOfRange c = ends_out c.loop-left.invariant (omega arith) (sym c.read_entry.ensures ∙ c.in-OutOfRange.is)

pub returns-in-Stop : goal.returns-in-Stop
returns-in-Stop c = ends-stop c.loop-left.invariant (omega arith) (sym c.read_entry.ensures ∙ c.in-Stop.is)

pub returns-then-span : goal.returns-then-span
returns-then-span c = ends-cut _ c.loop-left.invariant (omega arith) (sym c.read_entry.ensures ∙ c.in-Covers.is) c.if-span.true

pub returns-then-left-n : goal.returns-then-left-n
returns-then-left-n c = ends-past _ c.loop-left.invariant (omega arith) (sym c.read_entry.ensures ∙ c.in-Covers.is) c.if-span.false c.if-left-n.true

pub loop-left-smaller : goal.loop-left-smaller
loop-left-smaller c = let z = entry-places _ _ _ _ (sym c.read_entry.ensures ∙ c.in-Covers.is) in omega (arith, z)

pub loop-left-preserved : goal.loop-left-preserved
loop-left-preserved c = goes_on _ c.loop-left.invariant (omega arith) (sym c.read_entry.ensures ∙ c.in-Covers.is) c.if-span.false c.if-left-n.false

pub returns : goal.returns
returns c = ends_all c.loop-left.invariant (omega arith)
