-- `fields::read_fields` meets its contract: each class by its own function, the class being the number that was matched.
-- Assumes nothing.
use mathlib.Core.Path.{◌≡◌, ap}
use native.Mathlib.Omega.{arith}
use Rattle.fields.specs.Classes.{classes, class_at}
use Rattle.fields.proofs.Laws.{of_class}
use Rattle.fields.proofs.read_fields.Goals as goal

pub returns-in-9 : goal.returns-in-9
unfolding classes class_at
returns-in-9 c = of_class (ap class_at c.in-9.is) c.read_bytes.ensures

pub returns-in-10 : goal.returns-in-10
unfolding classes class_at
returns-in-10 c = of_class (ap class_at c.in-10.is) c.read_text.ensures

pub returns-in-11 : goal.returns-in-11
unfolding classes class_at
returns-in-11 c = of_class (ap class_at c.in-11.is) c.read_short.ensures

pub returns-in_default : goal.returns-in_default
unfolding classes class_at
returns-in_default c =
    let class = c.args.class in
    let told = c.in_default.in_default-own.rest in
    let last : class ≡ 12 = omega (arith, told, c.if-class-lt-BYTES_CLASS.false, c.requires) in
    of_class (ap class_at last) c.read_numbers.ensures
