-- `lineentry::quick::plain_of` meets its contract: a column is below 128, so every sum fits.
use native.Mathlib.Omega.{arith}
use Rattle.lineentry.proofs.Bytes.{code_column_lt, plain_out, plain_in}
use Rattle.lineentry.proofs.quick.plain_of.Goals as goal

pub returns-then-down-line : goal.returns-then-down-line
returns-then-down-line c = plain_out _ _ _ _ _ _ c.lines_down-down.ensures.0 c.if-down-line.true

pub overflow_add-column : goal.overflow_add-column
overflow_add-column c = omega (arith, code_column_lt c.args.code c.args.second c.requires.0 (omega (arith, c.ranges.second)))

pub overflow_add-result : goal.overflow_add-result
overflow_add-result c = omega (arith, c.pick-start.ensures.1, code_column_lt c.args.code c.args.second c.requires.0 (omega (arith, c.ranges.second)))

pub overflow_add-result-2 : goal.overflow_add-result-2
overflow_add-result-2 c = omega (arith, c.pick-end.ensures.1, code_column_lt c.args.code c.args.second c.requires.0 (omega (arith, c.ranges.second)))

pub returns : goal.returns
returns c = plain_in _ _ _ _ _ _ c.lines_down-down.ensures.0 c.if-down-line.false c.show_line-l.ensures c.pick-start.ensures.0 c.pick-end.ensures.0 c.place_after.ensures c.requires.0
