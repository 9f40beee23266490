-- Carried by the laws of room. Assumes nothing.
use Rattle.output.proofs.Laws.{full, placed, sets-sized}
use lib.ListN.{length}
use native.Mathlib.Omega.{arith}
use Rattle.output.proofs.write_vec.Goals as goal

pub returns-then-room-place : goal.returns-then-room-place
returns-then-room-place c = full (omega arith) (omega arith) (omega arith) c.at.ensures

pub returns : goal.returns
returns c =
    let a = c.args in
    placed (omega arith) (omega arith) (sets-sized a.out.now a.at a.letter (length a.bytes.now) a.bytes.now c.store_u32.ensures c.store_slice.ensures)
