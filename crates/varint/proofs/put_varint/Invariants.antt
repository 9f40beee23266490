-- `varint::put_varint` meets its contract: at each turn the bytes of what is left still make the same whole.
-- Assumes nothing.
use Rattle.varint.proofs.WriteLoops.{LittleSoFar}
use Rattle.varint.proofs.put_varint.Given as goal

abbrev pub invariant-loop-i : goal.invariant-loop-i
invariant-loop-i l = LittleSoFar l.initial.out l.val l.count l.out l.i l.left
