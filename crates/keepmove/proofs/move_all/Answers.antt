-- `move_all` meets its contract by the laws cited here. Assumes nothing.
use Rattle.keepmove.proofs.Moving.{entries-room, nodes-room, all_moved}
use Rattle.keepmove.proofs.move_all.Goals as goal

pub move_entries-requires : goal.move_entries-requires
move_entries-requires c =
    let cut = c.split_at_mut-visited in
    entries-room cut.result.0.now cut.result.1.now c.requires.0 cut.ensures.front cut.ensures.front_len cut.ensures.back_len

pub move_nodes-requires : goal.move_nodes-requires
move_nodes-requires c =
    let cut = c.split_at_mut-visited in
    nodes-room cut.result.0.now cut.result.1.now c.requires.0 cut.ensures.front cut.ensures.front_len cut.ensures.back_len c.move_entries.new.space c.move_entries.auto.space c.requires.1

pub returns : goal.returns
returns c =
    let cut = c.split_at_mut-visited in
    all_moved cut.result.0.now cut.result.1.now c.requires.0 cut.ensures.front cut.ensures.front_len cut.ensures.back_len c.move_entries.new.space c.move_entries.auto.space
    c.args.slots.now c.move_nodes.new.space c.move_entries.ensures c.move_nodes.ensures c.move_nodes.auto.space c.clear_words.ensures c.clear_words-2.ensures
