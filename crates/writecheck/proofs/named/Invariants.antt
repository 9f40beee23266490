-- Carried by `Walking` over sound strings. Assumes nothing.
use Rattle.chains.proofs.Chains.{Walking, spelt, onto}
use Rattle.writecheck.specs.Looking.{lent_of}
use Rattle.writecheck.proofs.named.Given as goal

abbrev pub invariant-loop : goal.invariant-loop
invariant-loop l = Walking (spelt (lent_of l.values.lent)) (onto l.values.lent.entries.now) l.steps l.first l.counter l.e
