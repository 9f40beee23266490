-- `first_line` passes the first line before the ninth part.
-- Assumes nothing.
use borrow.Author.Tests.{eq-eqb, ne_eqb, lt-leb, le-leb}
use mathlib.Core.Path.{refl}
use Rattle.readsteps.proofs.first_line.Goals as goal

pub returns-then-i-ne-LINE_PART : goal.returns-then-i-ne-LINE_PART
returns-then-i-ne-LINE_PART c = rw (ne_eqb _ _ c.if-i-ne-LINE_PART.true) refl

pub returns-then-s-at : goal.returns-then-s-at
returns-then-s-at c = rw (eq-eqb _ _ c.if-i-ne-LINE_PART.false, lt-leb _ _ c.if-s-at.true, c.at.ensures) refl

pub returns : goal.returns
returns c = rw (eq-eqb _ _ c.if-i-ne-LINE_PART.false, le-leb _ _ c.if-s-at.false) refl
