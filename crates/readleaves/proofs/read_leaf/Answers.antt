-- `read_leaf` reads each of its classes by that class's own function.
-- Assumes nothing.
use mathlib.Core.Path.{refl, ap}
use native.Mathlib.Omega.{arith}
use Rattle.grammar.specs.Fields.{fields}
use Rattle.fields.specs.Behind.{fields_of}
use Rattle.fields.specs.Classes.{classes, class_at}
use Rattle.fields.proofs.Laws.{of_class}
use Rattle.readleaves.proofs.Fronts.{spans-read, spans-some}
use borrow.Author.Rules.{rules}
use Rattle.readleaves.proofs.read_leaf.Goals as goal

pub returns-in-0 : goal.returns-in-0
unfolding classes class_at fields_of fields
returns-in-0 c = spans-some (omega (arith, c.in-0.is)) (of_class (ap class_at c.in-0.is) (record { ahead = (search rules, search rules); exact = refl }))

pub returns-in-1 : goal.returns-in-1
unfolding classes class_at
returns-in-1 c = spans-read (omega (arith, c.in-1.is)) (of_class (ap class_at c.in-1.is) c.read_fixed.ensures) c.ok.ensures.value

pub returns-in-2 : goal.returns-in-2
unfolding classes class_at
returns-in-2 c = spans-read (omega (arith, c.in-2.is)) (of_class (ap class_at c.in-2.is) c.read_fixed-in-2.ensures) c.ok-in-2.ensures.value

pub returns-in-9 : goal.returns-in-9
unfolding classes class_at
returns-in-9 c = spans-read (omega (arith, c.in-9.is)) (of_class (ap class_at c.in-9.is) c.read_bytes.ensures) c.ok-in-9.ensures.value

pub returns-in-10 : goal.returns-in-10
unfolding classes class_at
returns-in-10 c = spans-read (omega (arith, c.in-10.is)) (of_class (ap class_at c.in-10.is) c.read_text.ensures) c.ok-in-10.ensures.value

pub returns-in-11 : goal.returns-in-11
unfolding classes class_at
returns-in-11 c = spans-read (omega (arith, c.in-11.is)) (of_class (ap class_at c.in-11.is) c.read_short.ensures) c.ok-in-11.ensures.value
