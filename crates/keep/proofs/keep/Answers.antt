-- `keep` meets its contract by the laws of Keeping. Assumes nothing.
use mathlib.Core.Path.{ap}
use Rattle.std.specs.Prelude.{Err}
use Rattle.keep.proofs.Keeping.{keep_short, keep_limits, keep_done}
use Rattle.keep.proofs.keep.Goals as goal

pub returns-then-size-keep_need : goal.returns-then-size-keep_need
returns-then-size-keep_need c =
    keep_short c.args.nodes.now c.args.entries.now c.args.slots.now c.args.stack.now c.args.usednodes c.args.usedentries c.args.node c.clear_words.ensures c.keep_need.ensures.0 c.if-size-keep_need.true (ap Err c.at.ensures)

pub keep_within-requires : goal.keep_within-requires
keep_within-requires c =
    keep_limits c.args.nodes.now c.args.entries.now c.args.slots.now c.args.stack.now c.args.usednodes c.args.usedentries c.args.node c.clear_words.ensures c.keep_need.ensures.0 c.if-size-keep_need.false c.nodes_in-bound.ensures c.entries_in-limit.ensures.0

pub returns : goal.returns
returns c =
    keep_done c.args.nodes.now c.args.entries.now c.args.slots.now c.args.stack.now c.args.usednodes c.args.usedentries c.args.node c.clear_words.ensures c.keep_need.ensures.0 c.if-size-keep_need.false c.nodes_in-bound.ensures c.entries_in-limit.ensures.0 c.keep_within.ensures
