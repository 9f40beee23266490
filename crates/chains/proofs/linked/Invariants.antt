-- Carried by `Walking`: what is left of the walk still tells the same; entries that are linked straight ahead are walked already.
-- Assumes nothing.
use Rattle.chains.proofs.Chains.{Walking, inside, onto}
use Rattle.chains.proofs.linked.Given as goal

abbrev pub invariant-loop : goal.invariant-loop
invariant-loop l = Walking (inside l.entries l.used) (onto l.entries) l.steps l.first l.counter l.e
