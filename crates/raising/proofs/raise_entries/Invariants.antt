-- `raising::raise_entries` meets its contract: one turn and the end by the laws of Turns. Assumes nothing.
use Rattle.raising.proofs.Turns.{Entries}
use Rattle.raising.proofs.raise_entries.Given as goal

abbrev pub invariant-loop-i : goal.invariant-loop-i
invariant-loop-i l = Entries l.initial.entries l.count l.nodes l.kept l.i l.entries
