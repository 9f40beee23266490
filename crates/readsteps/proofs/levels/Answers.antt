-- `levels` is two for a code and one else.
-- Assumes nothing.
use borrow.Author.Tests.{eq-eqb, ne_eqb}
use mathlib.Core.Path.{refl}
use Rattle.readsteps.proofs.levels.Goals as goal

pub returns-then-class-eq-CODE_CLASS : goal.returns-then-class-eq-CODE_CLASS
returns-then-class-eq-CODE_CLASS c = rw (eq-eqb _ _ c.if-class-eq-CODE_CLASS.true) refl

pub returns-else-class-eq-CODE_CLASS : goal.returns-else-class-eq-CODE_CLASS
returns-else-class-eq-CODE_CLASS c = rw (ne_eqb _ _ c.if-class-eq-CODE_CLASS.false) refl
