-- Carried by `Digiting`: the digits of what is left still come to the same output. Assumes nothing.
use Rattle.outputlongs.proofs.Integers.{Digiting}
use Rattle.outputlongs.proofs.store_digits.Given as goal

abbrev pub invariant-loop-left : goal.invariant-loop-left
invariant-loop-left l = Digiting l.initial.out l.at l.magnitude l.out l.left l.place

abbrev pub decreases-loop-left : goal.decreases-loop-left
decreases-loop-left l = l.left
