-- `join::line_told` meets its contract: each way out is a law of proofs/Told. Assumes nothing.
use native.Mathlib.Omega.{arith}
use Rattle.join.proofs.Told.{place_inside, tells-long, tells-refused, tells-placed, tells-ended}
use Rattle.join.proofs.line_told.Goals as goal

pub returns-then-table : goal.returns-then-table
returns-then-table c = tells-long _ _ _ c.if-table.true c.at.ensures

pub overflow_cast-e : goal.overflow_cast-e
overflow_cast-e c = let a = c.args in omega (arith, place_inside a.t.bytes.now a.t.first a.t.count c.walk_row-e.ensures, c.if-table.false)

pub returns-in-Refused : goal.returns-in-Refused
returns-in-Refused c = tells-refused _ _ _ c.if-table.false c.walk_row-e.ensures c.in-Refused.is c.at-in-Refused.ensures

pub returns-in-AllPlaced : goal.returns-in-AllPlaced
returns-in-AllPlaced c = tells-placed _ _ _ c.if-table.false c.walk_row-e.ensures c.in-AllPlaced.is

pub returns : goal.returns
returns c = tells-ended _ _ _ c.if-table.false c.walk_row-e.ensures c.in_default.not-Refused c.in_default-how.not-AllPlaced c.entry_line-line.ensures
