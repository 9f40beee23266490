-- `varint::put_varint_be` meets its contract: at each turn the bytes that stand and those to go in front are the number's.
-- Assumes nothing.
use Rattle.std.proofs.Common.{refl, ◌∙◌, length-set, rules}
use Rattle.varint.proofs.WriteLoops.{big_start, big_turn, big_end}
use Rattle.varint.proofs.put_varint_be.Goals as goal

pub loop-i-init : goal.loop-i-init
loop-i-init c = big_start _ _ _ _ (search rules) (search rules)

pub loop-i-preserved : goal.loop-i-preserved
loop-i-preserved c = big_turn c.loop-i.invariant c.loop-i-test.true

pub shape_of-out : goal.shape_of-out
shape_of-out c = c.loop-i.invariant.same ∙ simp length-set

pub returns : goal.returns
returns c = (search rules, big_end c.loop-i.invariant _ _ refl (search rules) c.loop-i-test.false)
