-- `leaf::magnitude` meets its contract. The loop's invariant: the digits counted so far stand above those that are left.
-- Assumes nothing.
use Rattle.leaf.proofs.Digits.{Counting}
use Rattle.leaf.proofs.magnitude.Given as goal

abbrev pub invariant-loop-left : goal.invariant-loop-left
invariant-loop-left l = Counting l.s l.count l.at l.left l.number
