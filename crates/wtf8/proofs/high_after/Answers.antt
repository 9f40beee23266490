-- `wtf8::high_after` meets its contract: its test is that of `high_after`.
-- Assumes nothing.
use borrow.Author.Tests.{eq-eqb, ne_eqb}
use Rattle.wtf8.proofs.high_after.Goals as goal

pub returns-then-lead-eq244 : goal.returns-then-lead-eq244
returns-then-lead-eq244 c = rw (eq-eqb _ _ c.if-lead-eq244.true)

pub returns : goal.returns
returns c = rw (ne_eqb _ _ c.if-lead-eq244.false)
