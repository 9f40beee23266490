-- Carried by the laws of room. Assumes nothing.
use Rattle.output.proofs.Laws.{full, placed, sets_first}
use native.Mathlib.Omega.{arith}
use mathlib.Core.Path.{◌∙◌}
use Rattle.output.proofs.write_slice.Goals as goal

pub returns-then-room-place : goal.returns-then-room-place
returns-then-room-place c = full (omega arith) (omega arith) (omega arith) c.at.ensures

pub returns : goal.returns
returns c = placed (omega arith) (omega arith) (c.store_slice.ensures ∙ sets_first c.args.out.now c.args.at c.args.letter c.args.bytes.now)
