-- `raising::raise_entry` meets its contract: the child is written and then the link. Assumes nothing.
use Rattle.raising.proofs.Turns.{entry-relinked}
use Rattle.raising.proofs.raise_entry.Goals as goal

pub returns : goal.returns
returns c =
    let b = c.args in
    entry-relinked b.entries.now b.e b.nodes b.kept c.child_at.ensures c.wrapping_add_u32-child.ensures.value c.next_at.ensures c.raised-next.ensures c.write_entry.ensures
    c.link_entry.ensures
