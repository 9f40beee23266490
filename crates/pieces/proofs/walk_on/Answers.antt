-- `pieces::walk_on` meets its contract: the walk, then its end.
use Rattle.pieces.proofs.Settles.{walks}
use Rattle.pieces.proofs.walk_on.Goals as goal

pub returns : goal.returns
returns c =
    let a = c.args in
    walks a.table.now a.k.start a.bytes a.k.line a.k.placed a.k.count a.state.now a.records.now
    c.place_row-x.ensures.1 c.settle.ensures
