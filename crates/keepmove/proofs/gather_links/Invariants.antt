-- `gather_links` meets its contract by the laws cited here. Assumes nothing.
use Prim.Native.Nat.{◌+◌, ◌-◌}
use Rattle.keepmove.proofs.Gathering.{Links}
use Rattle.keepmove.proofs.gather_links.Given as goal

abbrev pub invariant-loop-at : goal.invariant-loop-at
invariant-loop-at l = Links l.from l.number-2 l.count l.initial.out l.number (l.from + l.count - l.at) l.at l.out
