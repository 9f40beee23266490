-- `salvage::write_past` meets its contract. Assumes nothing.
use native.Mathlib.Omega.{arith}
use Rattle.salvage.proofs.Stores.{stored_past}
use Rattle.salvage.proofs.write_past.Goals as goal

pub returns : goal.returns
returns c = stored_past _ _ _ _ _ _ (omega arith) (omega arith) (omega arith) c.head_for.ensures c.copy_bytes.ensures
