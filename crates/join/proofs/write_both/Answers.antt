-- `join::write_both` meets its contract: the second copy begins where the first ends. Assumes nothing.
use Rattle.join.proofs.Told.{stored-both}
use Rattle.join.proofs.write_both.Goals as goal

pub returns : goal.returns
returns c = let a = c.args in stored-both a.a.now a.b.now a.out.now c.requires c.copy_bytes.ensures c.copy_bytes-2.ensures
