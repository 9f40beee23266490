-- `bypiece::onebyte::short_span` meets its contract: it is the entry of its two bytes, whose column is below 128.
use native.Mathlib.Omega.{arith}
use Rattle.bypiece.proofs.Heads.{short-ends}
use Rattle.bypiece.proofs.onebyte.short_span.Goals as goal

pub returns : goal.returns
returns c = short-ends _ _ (omega arith) (omega arith) _ c.show_line-l.ensures
