-- `varint::put_varint` meets its contract: at each turn the bytes of what is left still make the same whole.
-- Assumes nothing.
use Rattle.std.proofs.Common.{arith, length-set, rules}
use Rattle.varint.proofs.WriteLoops.{little_start, little_turn, little_last_group, little_end}
use Rattle.varint.proofs.put_varint.Goals as goal

pub loop-i-init : goal.loop-i-init
loop-i-init c = little_start _ _ _ c.byte_count-count.ensures.0 (search rules)

pub loop-i-preserved : goal.loop-i-preserved
loop-i-preserved c = little_turn c.loop-i.invariant c.loop-i-test.true

pub overflow_cast-out-2 : goal.overflow_cast-out-2
overflow_cast-out-2 c = record { fits = omega (arith, little_last_group c.loop-i.invariant c.loop-i-test.false) }

pub bounds-out-count : goal.bounds-out-count
bounds-out-count c = omega (arith, c.loop-i.invariant.room, c.loop-i.invariant.some)

pub shape_of-out : goal.shape_of-out
shape_of-out c = simp length-set c.loop-i.invariant.same

pub returns : goal.returns
returns c = (c.loop-i.invariant.all, little_end c.loop-i.invariant c.loop-i-test.false)
