-- Carried by `Same`: the bytes that are left tell the same. Assumes nothing.
use Rattle.cellnames.proofs.Groups.{Same}
use Rattle.cellnames.proofs.same_bytes.Given as goal

abbrev pub invariant-loop-i : goal.invariant-loop-i
invariant-loop-i l = Same l.s l.a l.b l.size l.i
