-- `varint::put_varint_be` meets its contract: at each turn the bytes that stand and those to go in front are the number's.
-- Assumes nothing.
use Rattle.varint.proofs.WriteLoops.{BigSoFar}
use Rattle.varint.proofs.put_varint_be.Given as goal

abbrev pub invariant-loop-i : goal.invariant-loop-i
invariant-loop-i l = BigSoFar l.initial.out l.at l.val l.out l.i l.above
