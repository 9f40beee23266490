-- `bypiece::end_cut` meets its contract: two fills, one behind the other.
use Rattle.bypiece.proofs.Ends.{fills-both}
use Rattle.bypiece.proofs.end_cut.Goals as goal

pub returns : goal.returns
returns c =
    let a = c.args in
    fills-both a.state.now a.records.now a.k a.span c.min-n.ensures c.at_line.ensures c.fill.ensures c.fill-2.ensures c.finish.ensures.0 c.finish.ensures.1
