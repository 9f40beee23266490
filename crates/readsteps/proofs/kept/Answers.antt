-- `kept` is the choice of its name.
-- Assumes nothing.
use borrow.Author.Tests.{eq-eqb, ne_eqb}
use mathlib.Core.Path.{refl}
use Rattle.readsteps.proofs.kept.Goals as goal

pub returns-then-count-part : goal.returns-then-count-part
returns-then-count-part c = rw (eq-eqb _ _ c.if-count-part.true) refl

pub returns-else-count-part : goal.returns-else-count-part
returns-else-count-part c = rw (ne_eqb _ _ c.if-count-part.false) refl
