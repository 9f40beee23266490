-- `sillgarland::rowstarts::sill_index_starts` meets its contract: the answer of `startindex::index_starts`, handed on as numbers.
-- Assumes nothing.
use Rattle.sillgarland.specs.Starts.{indexed_struct}
use Rattle.sillgarland.proofs.Handing.{handed_apart}
use Rattle.sillgarland.proofs.rowstarts.sill_index_starts.Goals as goal

pub returns : goal.returns
returns c =
    let told = c.index_starts.ensures in
    handed_apart indexed_struct c.from.ensures told.0 told.1
