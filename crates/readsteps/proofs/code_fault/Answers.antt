-- `code_fault` makes the checks at a code's end in the definition's order.
-- Assumes nothing.
use borrow.Author.Tests.{eq-eqb, ne_eqb, lt-ltb, le-ltb}
use mathlib.Core.Path.{refl}
use Rattle.readsteps.proofs.code_fault.Goals as goal

pub returns-then-names-kinds : goal.returns-then-names-kinds
returns-then-names-kinds c = rw (← c.count_of-names.ensures, ← c.size_of-kinds.ensures, ne_eqb _ _ c.if-names-kinds.true) refl

pub returns-then-argument_sum-ge4294967296 : goal.returns-then-argument_sum-ge4294967296
returns-then-argument_sum-ge4294967296 c = rw (← c.count_of-names.ensures, ← c.size_of-kinds.ensures, eq-eqb _ _ c.if-names-kinds.false, ← c.argument_sum.ensures, le-ltb _ _ c.if-argument_sum-ge4294967296.true) refl

pub returns-then-size_of-ne0 : goal.returns-then-size_of-ne0
returns-then-size_of-ne0 c = rw (← c.count_of-names.ensures, ← c.size_of-kinds.ensures, eq-eqb _ _ c.if-names-kinds.false, ← c.argument_sum.ensures, lt-ltb _ _ c.if-argument_sum-ge4294967296.false, ← c.size_of.ensures, ne_eqb _ _ c.if-size_of-ne0.true) refl

pub returns : goal.returns
returns c = rw (← c.count_of-names.ensures, ← c.size_of-kinds.ensures, eq-eqb _ _ c.if-names-kinds.false, ← c.argument_sum.ensures, lt-ltb _ _ c.if-argument_sum-ge4294967296.false, ← c.size_of.ensures, eq-eqb _ _ c.if-size_of-ne0.false) refl
