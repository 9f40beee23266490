-- Carried by the laws of room. Assumes nothing.
use Rattle.writing.specs.Canonical.{bytes32}
use Rattle.output.proofs.Laws.{full, placed, sets_first}
use lib.ListN.{length-set}
use native.Mathlib.Omega.{arith}
use mathlib.Core.Path.{◌∙◌}
use Rattle.output.proofs.write_len.Goals as goal

pub returns-then-room-place-lt5 : goal.returns-then-room-place-lt5
returns-then-room-place-lt5 c = full (omega arith) (omega arith) (omega arith) c.at.ensures

pub store_u32-requires : goal.store_u32-requires
store_u32-requires c = simp length-set (omega arith)

pub shape_of-out : goal.shape_of-out
shape_of-out c = c.store_u32.auto.out ∙ simp length-set

pub returns : goal.returns
returns c = placed (omega arith) (omega arith) (c.store_u32.ensures ∙ sets_first c.args.out.now c.args.at c.args.letter (bytes32 c.args.len))
