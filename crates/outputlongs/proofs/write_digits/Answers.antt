-- Carried by the laws of room and of digits. Assumes nothing.
use Rattle.outputlongs.proofs.Integers.{digits_full, digits-placed}
use lib.ListN.{length-set}
use native.Mathlib.Omega.{arith}
use mathlib.Core.Path.{◌∙◌}
use Rattle.outputlongs.proofs.write_digits.Goals as goal

pub returns-then-room-place : goal.returns-then-room-place
returns-then-room-place c = digits_full c.args.out.now c.args.at c.args.negative c.args.magnitude c.digits_in-count.result c.digits_in-count.ensures.0 (omega arith) (omega arith) (omega arith) c.at.ensures

pub store_u32-requires : goal.store_u32-requires
store_u32-requires c = simp length-set (omega (arith, c.digits_in-count.ensures))

pub store_digits-requires : goal.store_digits-requires
store_digits-requires c = omega (arith, c.store_u32.auto.out, length-set c.args.out.now c.args.at 0x6C, c.digits_in-count.ensures)

pub shape_of-out : goal.shape_of-out
shape_of-out c = c.store_digits.auto.out ∙ c.store_u32.auto.out ∙ simp length-set

pub returns : goal.returns
returns c =
    digits-placed c.args.out.now c.args.at c.args.negative c.args.magnitude c.digits_in-count.result c.digits_in-count.ensures.0 (omega arith) c.signed_count.ensures c.store_u32.ensures c.store_digits.ensures
