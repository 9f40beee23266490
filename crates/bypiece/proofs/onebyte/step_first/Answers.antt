-- `bypiece::onebyte::step_first` meets its contract: the byte says which entry it begins.
use mathlib.Core.Path.{sym, ◌∙◌}
use native.Mathlib.Omega.{arith}
use Rattle.bypiece.proofs.Heads.{short_cut, number_cut, line-cut}
use Rattle.bypiece.proofs.onebyte.step_first.Goals as goal

pub returns-then-head-lt208 : goal.returns-then-head-lt208
returns-then-head-lt208 c = short_cut _ _ (omega arith) (omega arith)

pub returns-then-head-ge232 : goal.returns-then-head-ge232
returns-then-head-ge232 c = number_cut _ _ (omega arith) (omega arith) (omega arith)

pub returns-in-Some : goal.returns-in-Some
returns-in-Some c = line-cut _ _ _ (omega arith) (omega arith) (sym c.line_of.ensures ∙ c.in-Some.is)
