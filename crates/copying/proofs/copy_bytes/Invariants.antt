-- `copying::copy_bytes` meets its contract: what is copied so far is the front of the bytes. Assumes nothing.
use Rattle.copying.proofs.Copying.{Copied}
use Rattle.copying.proofs.copy_bytes.Given as goal

abbrev pub invariant-loop-i : goal.invariant-loop-i
invariant-loop-i l = Copied l.bytes l.out l.i
