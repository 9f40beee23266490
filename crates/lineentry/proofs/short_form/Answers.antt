-- `lineentry::short_form` meets its contract: a short entry's column is below 128, so every sum fits.
use native.Mathlib.Omega.{arith}
use Rattle.lineentry.specs.Entry.{short_form}
use Rattle.lineentry.proofs.Entries.{column_lt}
use Rattle.lineentry.proofs.short_form.Goals as goal

pub overflow_add-result : goal.overflow_add-result
overflow_add-result c = omega (arith, column_lt c.args.code c.lt_byte-d.result.value (omega arith) (omega arith))

pub overflow_add-result-2 : goal.overflow_add-result-2
overflow_add-result-2 c = omega (arith, column_lt c.args.code c.lt_byte-d.result.value (omega arith) (omega arith))

pub overflow_add-result-3 : goal.overflow_add-result-3
overflow_add-result-3 c = omega (arith, column_lt c.args.code c.lt_byte-d.result.value (omega arith) (omega arith))

pub returns : goal.returns
unfolding short_form
returns c = rw (c.lt_byte-d.ensures, c.show_line-l.ensures)
