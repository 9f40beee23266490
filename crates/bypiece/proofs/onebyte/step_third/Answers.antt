-- `bypiece::onebyte::step_third` meets its contract: the entry ends here.
use mathlib.Core.Path.{sym, ◌∙◌}
use native.Mathlib.Omega.{arith}
use Rattle.bypiece.proofs.Heads.{line-ends}
use Rattle.bypiece.proofs.ByByte.{ends_as}
use Rattle.bypiece.proofs.onebyte.step_third.Goals as goal

pub returns-in-Some : goal.returns-in-Some
returns-in-Some c = ends_as c.line_span.ensures (line-ends _ _ _ (omega arith) (omega arith) (sym c.line_of.ensures ∙ c.in-Some.is) _ _)
