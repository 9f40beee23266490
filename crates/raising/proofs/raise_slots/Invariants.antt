-- `raising::raise_slots` meets its contract: one turn and the end by the laws of Turns. Assumes nothing.
use Rattle.raising.proofs.Turns.{Slots}
use Rattle.raising.proofs.raise_slots.Given as goal

abbrev pub invariant-loop-i : goal.invariant-loop-i
invariant-loop-i l = Slots l.initial.slots l.count l.nodes l.i l.slots
