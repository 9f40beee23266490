-- `move_entries` meets its contract by the laws cited here. Assumes nothing.
use Rattle.keepmove.proofs.Moving.{entries-done}
use Rattle.keepmove.proofs.move_entries.Goals as goal

pub returns : goal.returns
returns c =
    let a = c.args in
    entries-done a.nodes.now a.entries.now a.visited.now a.space.now a.bound a.kept c.requires.2 c.all_kids.ensures c.all_kids.auto.out c.lay.ensures
    c.all_links.ensures c.all_links.auto.out c.lay-2.ensures c.zero_from.ensures
