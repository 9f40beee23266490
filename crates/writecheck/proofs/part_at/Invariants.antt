-- Carried by `Reaching`: what is left of the way leads to the same entry. Assumes nothing.
use Rattle.writecheck.proofs.Codes.{Reaching}
use Rattle.writecheck.proofs.part_at.Given as goal

abbrev pub invariant-loop : goal.invariant-loop
invariant-loop l = Reaching l.entries l.first l.part l.counter l.e
