-- `raising::raise_slots` meets its contract: one turn and the end by the laws of Turns. Assumes nothing.
use Rattle.std.proofs.Common.{rules}
use Rattle.raising.proofs.Turns.{slots_start, slots-turn, slots-done}
use Rattle.raising.proofs.raise_slots.Goals as goal

pub loop-i-init : goal.loop-i-init
loop-i-init c = search (slots_start, rules)

pub loop-i-preserved : goal.loop-i-preserved
loop-i-preserved c = search (slots-turn, rules)

pub returns : goal.returns
returns c = search (slots-done, rules)
