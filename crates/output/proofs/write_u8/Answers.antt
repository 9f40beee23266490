-- Carried by the laws of room. Assumes nothing.
use Rattle.output.proofs.Laws.{full, placed}
use native.Mathlib.Omega.{arith}
use mathlib.Core.Path.{refl}
use Rattle.output.proofs.write_u8.Goals as goal

pub returns-then-room-place-lt1 : goal.returns-then-room-place-lt1
returns-then-room-place-lt1 c = full (omega arith) (omega arith) (omega arith) c.at.ensures

pub returns : goal.returns
returns c = placed (omega arith) (omega arith) refl
