-- `wtf8::low_after` meets its contract: its tests are those of `low_after`.
-- Assumes nothing.
use borrow.Author.Tests.{eq-eqb, ne_eqb}
use Rattle.wtf8.proofs.low_after.Goals as goal

pub returns-then-lead-eq224 : goal.returns-then-lead-eq224
returns-then-lead-eq224 c = rw (eq-eqb _ _ c.if-lead-eq224.true)

pub returns-then-lead-eq240 : goal.returns-then-lead-eq240
returns-then-lead-eq240 c = rw (ne_eqb _ _ c.if-lead-eq224.false, eq-eqb _ _ c.if-lead-eq240.true)

pub returns : goal.returns
returns c = rw (ne_eqb _ _ c.if-lead-eq224.false, ne_eqb _ _ c.if-lead-eq240.false)
