-- Carried by the laws of room. Assumes nothing.
use Rattle.output.proofs.Laws.{full, placed, sets-second}
use native.Mathlib.Omega.{arith}
use mathlib.Core.Path.{◌∙◌}
use lib.ListN.{length}
use Rattle.outputtext.proofs.write_short.Goals as goal

pub returns-then-room-place : goal.returns-then-room-place
returns-then-room-place c = full (omega arith) (omega arith) (omega arith) c.at.ensures

pub returns : goal.returns
returns c =
    let a = c.args in
    placed (omega arith) (omega (arith, c.from.ensures)) (c.store_slice.ensures ∙ sets-second a.out.now a.at 0x7A (length a.bytes.now) a.bytes.now)
