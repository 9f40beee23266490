-- `bypiece::onebyte::hold_more` meets its contract: what is held from now on is what was held, and the byte.
use mathlib.Core.Path.{refl}
use lib.ListN.{replicate}
use Rattle.bypiece.proofs.ByByte.{held_front}
use Rattle.bypiece.proofs.onebyte.hold_more.Goals as goal

pub returns : goal.returns
returns c =
    let a = c.args in
    let p = c.requires in
    let g' = c.go_on-2 in
    (g'.ensures.0, held_front a.state.now p.0 a.bytes.now a.k (replicate 25 0) p.1 p.2 refl c.fetch_with.ensures g'.ensures.1)
