-- Carried by the laws of room. Assumes nothing.
use native.Mathlib.Omega.{arith}
use Rattle.output.proofs.Laws.{full, placed}
use Rattle.output.proofs.write_u32.Goals as goal

pub returns-then-room-place-lt4 : goal.returns-then-room-place-lt4
returns-then-room-place-lt4 c = full (omega arith) (omega arith) (omega arith) c.at.ensures

pub store_u32-requires : goal.store_u32-requires
store_u32-requires c = omega arith

pub shape_of-out : goal.shape_of-out
shape_of-out c = c.store_u32.auto.out

pub returns : goal.returns
returns c = placed (omega arith) (omega arith) c.store_u32.ensures
