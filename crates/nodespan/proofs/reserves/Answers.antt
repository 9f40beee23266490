-- A header of the same input before the place, and whether it is flagged. Assumes nothing.
use native.Mathlib.Omega.{arith}
use borrow.Author.Tests.{lt-ltb, le-ltb, eq-eqb, ne_eqb}
use Rattle.nodespan.proofs.reserves.Goals as goal

pub returns-then-input_of-b : goal.returns-then-input_of-b
returns-then-input_of-b c = (rw (← c.input_of.ensures, ne_eqb _ _ c.if-input_of-b.true), omega arith)

pub returns-then-b-header : goal.returns-then-b-header
returns-then-b-header c =
    (rw (← c.header_of-header.ensures, ← c.input_of.ensures, eq-eqb _ _ c.if-input_of-b.false, le-ltb _ _ c.if-b-header.true), omega arith)

pub returns : goal.returns
returns c = (
  rw (
    ← c.header_of-header.ensures,
    ← c.input_of.ensures,
    eq-eqb _ _ c.if-input_of-b.false,
    lt-ltb _ _ c.if-b-header.false,
  ) c.flag_at.ensures.0,
  c.flag_at.ensures.1,
)
