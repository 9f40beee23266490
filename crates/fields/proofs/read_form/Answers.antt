-- `fields::read_form` meets its contract: each class by its own function, the class being the number that was matched.
-- Assumes nothing.
use borrow.Author.Rules.{rules}
use mathlib.Core.Path.{◌≡◌, refl, ap}
use Prim.Native.Nat.{◌≤◌}
use Rattle.grammar.specs.Fields.{fields}
use Rattle.fields.specs.Behind.{fields_of}
use Rattle.fields.specs.Classes.{classes, class_at}
use Rattle.fields.proofs.Laws.{of_class, avoids}
use native.Mathlib.Omega.{arith}
use Rattle.fields.proofs.read_form.Goals as goal

pub returns-in-0 : goal.returns-in-0
unfolding classes class_at fields_of fields
returns-in-0 c = of_class (ap class_at c.in-0.is) (record { ahead = (search rules, search rules); exact = refl })

pub returns-in-1 : goal.returns-in-1
unfolding classes class_at
returns-in-1 c = of_class (ap class_at c.in-1.is) c.read_fixed.ensures

pub returns-in-2 : goal.returns-in-2
unfolding classes class_at
returns-in-2 c = of_class (ap class_at c.in-2.is) c.read_fixed-in-2.ensures

pub returns-in-3 : goal.returns-in-3
unfolding classes class_at
returns-in-3 c = of_class (ap class_at c.in-3.is) c.read_double.ensures

pub returns-in-4 : goal.returns-in-4
unfolding classes class_at
returns-in-4 c = of_class (ap class_at c.in-4.is) c.read_pylong.ensures

pub returns-in-5 : goal.returns-in-5
unfolding classes class_at
returns-in-5 c = of_class (ap class_at c.in-5.is) c.read_sequence.ensures

pub returns-in-6 : goal.returns-in-6
unfolding classes class_at
returns-in-6 c = of_class (ap class_at c.in-6.is) c.read_few.ensures

pub returns-in-7 : goal.returns-in-7
unfolding classes class_at fields_of fields
returns-in-7 c = of_class (ap class_at c.in-7.is) (record { ahead = (search rules, search rules); exact = refl })

pub returns-in_default : goal.returns-in_default
unfolding classes class_at fields_of fields
returns-in_default c =
    let class = c.args.class in
    let over : 8 ≤ class = avoids class 8 c.in_default.in_default-own.rest in
    let last : class ≡ 8 = omega (arith, over, c.requires) in
    of_class (ap class_at last) (record { ahead = (search rules, search rules); exact = refl })
