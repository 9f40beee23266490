-- `bypiece::onebyte::bare_span` meets its contract: it is the entry of its one byte.
use native.Mathlib.Omega.{arith}
use Rattle.bypiece.proofs.Heads.{bare_ends}
use Rattle.bypiece.proofs.onebyte.bare_span.Goals as goal

pub returns : goal.returns
returns c = bare_ends _ _ (omega arith) (omega arith) c.at_line.ensures
