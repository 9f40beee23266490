-- One answer for each call of the function of `sources`: the counts and the bytes, by an equation each.
use Rattle.sources.proofs as sources
use Rattle.sources.specs.contracts as sources_contracts
use Rattle.agreement.specs.Agreement.{Agree}
use Rattle.agreement.proofs.Same.{one}

pub sources_of_table_agrees : Agree sources_contracts.sources_of_table.ended sources.sources_of_table.Reads.Asked sources.sources_of_table.Reads.Learnt
sources_of_table_agrees κs a asked r r' ws ws' p p' = (one p.0 p'.0, λ i. (tt, (tt, (tt, (one p.1 p'.1 i, tt)))))
