-- `decimals::put_decimal` meets its contract: at each turn the digits that stand and those to go in front are the number's.
-- Assumes nothing.
use Rattle.decimals.proofs.Putting.{PutSoFar}
use Rattle.decimals.proofs.put_decimal.Given as goal

abbrev pub invariant-loop-i : goal.invariant-loop-i
invariant-loop-i l = PutSoFar l.initial.out l.at l.n l.out l.i l.above
