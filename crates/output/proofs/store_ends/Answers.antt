-- Carried by `ends-stored`: two ends that meet or overlap come to the whole. Assumes nothing.
use Rattle.output.proofs.Laws.{ends-stored}
use native.Mathlib.Omega.{arith}
use lib.ListN.{length}
use Prim.Native.Nat.{◌-◌}
use Rattle.output.proofs.store_ends.Goals as goal

pub returns : goal.returns
returns g c =
    let a = c.args in
    let p = c.requires in
    let n = length a.bytes.now - g.row.N in
    ends-stored a.out.now a.at a.bytes.now n g.row.N p.0 (omega arith) (omega arith) c.store_block.ensures c.store_block-2.ensures
