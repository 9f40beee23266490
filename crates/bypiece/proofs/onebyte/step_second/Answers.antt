-- `bypiece::onebyte::step_second` meets its contract: the first byte says whether the entry ends here.
use mathlib.Core.Path.{sym, ◌∙◌}
use native.Mathlib.Omega.{arith}
use Rattle.bypiece.proofs.Heads.{line-cut_2}
use Rattle.bypiece.proofs.onebyte.step_second.Goals as goal

pub returns-in-Some : goal.returns-in-Some
returns-in-Some c = line-cut_2 _ _ _ (omega arith) (omega arith) (sym c.line_of.ensures ∙ c.in-Some.is) _
