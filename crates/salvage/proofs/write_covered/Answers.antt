-- `salvage::write_covered` meets its contract. Assumes nothing.
use native.Mathlib.Omega.{arith}
use Rattle.salvage.proofs.Stores.{front-stored, stored-covered}
use Rattle.salvage.proofs.write_covered.Goals as goal

pub returns : goal.returns
returns c =
    let a = c.args in
    stored-covered a.table.now a.place a.left a.out.now (omega arith) (front-stored a.place a.table.now a.out.now (omega arith) (omega arith) c.copy_bytes.ensures) c.cover.ensures
