-- Of the same input, from the start on, and before the end. Assumes nothing.
use borrow.Author.Tests.{lt-leb, le-leb, eq-eqb, ne_eqb}
use Rattle.nodespan.proofs.inside.Goals as goal

pub returns-then-input_of-b : goal.returns-then-input_of-b
returns-then-input_of-b c = rw (← c.input_of.ensures, ne_eqb _ _ c.if-input_of-b.true)

pub returns-then-header-b : goal.returns-then-header-b
returns-then-header-b c =
    rw (← c.header_of-header.ensures, ← c.input_of.ensures, eq-eqb _ _ c.if-input_of-b.false, lt-leb _ _ c.if-header-b.true)

pub returns : goal.returns
returns c =
    rw (← c.header_of-header.ensures, ← c.input_of.ensures, eq-eqb _ _ c.if-input_of-b.false, le-leb _ _ c.if-header-b.false)
