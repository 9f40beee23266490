-- `fields::read_digits` meets its contract. The loop's invariant: the digits judged so far were fine, and what is left comes to the same answer.
-- Assumes nothing.
use Prim.Native.Nat.{◌+◌, ◌-◌, ◌*◌}
use Rattle.fields.proofs.Laws.{Judging}
use Rattle.fields.proofs.read_digits.Given as goal

abbrev pub invariant-loop-i : goal.invariant-loop-i
invariant-loop-i l = Judging l.from.input.now l.count l.from.at (l.count - l.i) (l.from.at + 2 * l.i)
