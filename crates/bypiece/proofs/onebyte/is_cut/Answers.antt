-- `bypiece::onebyte::is_cut` meets its contract: each test is a fact, and the last answers.
use mathlib.Core.Path.{ap, ◌∙◌}
use mathlib.Core.List.{map}
use native.Mathlib.Omega.{arith}
use Rattle.piecestate.specs.State.{low}
use Rattle.piecestate.proofs.Stores.{part_all}
use Rattle.bypiece.specs.Byte.{lasts}
use Rattle.bypiece.proofs.Cuts.{cut_held}
use Rattle.bypiece.proofs.onebyte.is_cut.Goals as goal

pub returns : goal.returns
returns c =
    let a = c.args in
    cut_held a.held.now a.byte a.line c.requires (omega arith) (omega arith) (omega arith) (omega arith) (omega arith)
    (c.lasts_held.ensures.0 ∙ ap (λ t. lasts (map low t)) (part_all a.held.now 1)) c.last_of.ensures.0
