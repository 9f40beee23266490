-- `pieces::place_row` meets its contract: what is left still comes to the same summary and records, and each way out of a turn is a law of
-- proofs/Placing.
use mathlib.Core.Path.{sym, ◌∙◌}
use native.Mathlib.Omega.{arith}
use Rattle.lineentry.proofs.Entries.{entry-places}
use Rattle.rows.proofs.Going.{ends_out, ends-stop, ends-cut, ends-past, ends_all}
use Rattle.pieces.proofs.Placing.{placing_start, stays_out, stays_stop, stays_cut, stays_all, fills-past, places_on}
use Rattle.pieces.proofs.place_row.Goals as goal

pub loop-left-init : goal.loop-left-init
loop-left-init c = placing_start _ _ _ _ _ c.requires.1

pub returns-in-OutOfRange : goal.returns-in-OutOfRange
returns-in-OutOfRange c = (ends_out c.loop-left.invariant.walks (omega arith) (sym c.entry_here.ensures ∙ c.in-OutOfRange.is), stays_out c.loop-left.invariant (omega arith) (sym c.entry_here.ensures ∙ c.in-OutOfRange.is))

pub returns-in-Stop : goal.returns-in-Stop
returns-in-Stop c = (ends-stop c.loop-left.invariant.walks (omega arith) (sym c.entry_here.ensures ∙ c.in-Stop.is), stays_stop c.loop-left.invariant (omega arith) (sym c.entry_here.ensures ∙ c.in-Stop.is))

pub returns-then-span : goal.returns-then-span
returns-then-span c = (ends-cut _ c.loop-left.invariant.walks (omega arith) (sym c.entry_here.ensures ∙ c.in-Covers.is) c.if-span.true, stays_cut c.loop-left.invariant _ (omega arith) (sym c.entry_here.ensures ∙ c.in-Covers.is) c.if-span.true)

pub returns-then-left-n : goal.returns-then-left-n
returns-then-left-n c =
    let l' = c.loop-left in
    let e' = c.entry_here in
    (ends-past _ l'.invariant.walks (omega arith) (sym e'.ensures ∙ c.in-Covers.is) c.if-span.false c.if-left-n.true, fills-past l'.invariant _ (omega arith) (sym e'.ensures ∙ c.in-Covers.is) c.if-span.false c.if-left-n.true c.fill.ensures)

pub loop-left-smaller : goal.loop-left-smaller
loop-left-smaller c = let z = entry-places _ _ _ _ (sym c.entry_here.ensures ∙ c.in-Covers.is) in omega (arith, z)

pub loop-left-preserved : goal.loop-left-preserved
loop-left-preserved c = places_on c.loop-left.invariant _ (omega arith) (sym c.entry_here.ensures ∙ c.in-Covers.is) c.if-span.false c.if-left-n.false c.fill-in-Covers.ensures c.fill-in-Covers.auto.records

pub returns : goal.returns
returns c = (ends_all c.loop-left.invariant.walks (omega arith), stays_all c.loop-left.invariant (omega arith))
