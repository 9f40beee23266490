-- `raising::raise_entries` meets its contract: one turn and the end by the laws of Turns. Assumes nothing.
use Rattle.std.proofs.Common.{rules}
use Rattle.raising.proofs.Turns.{entries_start, entries-turn, entries-done}
use Rattle.raising.proofs.raise_entries.Goals as goal

pub loop-i-init : goal.loop-i-init
loop-i-init c = search (entries_start, rules)

pub loop-i-preserved : goal.loop-i-preserved
loop-i-preserved c = search (entries-turn, rules)

pub returns : goal.returns
returns c = search (entries-done, rules)
