-- `soundness::code_ruled` meets its contract: each test is the definition's.
-- Assumes nothing.
use borrow.Author.Tests.{lt-leb, le-leb, eq-eqb, ne_eqb}
use Rattle.soundness.proofs.code_ruled.Goals as goal

pub returns-then-node-lt-CODE_NUMBERS : goal.returns-then-node-lt-CODE_NUMBERS
returns-then-node-lt-CODE_NUMBERS c = rw (lt-leb _ _ c.if-node-lt-CODE_NUMBERS.true)

pub returns-then-s-place : goal.returns-then-s-place
returns-then-s-place c = rw (le-leb _ _ c.if-node-lt-CODE_NUMBERS.false, lt-leb _ _ c.if-s-place.true)

pub returns-then-node-ne-CODE_PARTS : goal.returns-then-node-ne-CODE_PARTS
returns-then-node-ne-CODE_PARTS c =
    rw (le-leb _ _ c.if-node-lt-CODE_NUMBERS.false, le-leb _ _ c.if-s-place.false, ne_eqb _ _ c.if-node-ne-CODE_PARTS.true)

pub returns : goal.returns
returns c =
    rw
    (le-leb _ _ c.if-node-lt-CODE_NUMBERS.false, le-leb _ _ c.if-s-place.false, eq-eqb _ _ c.if-node-ne-CODE_PARTS.false, c.argument_sum.ensures)
