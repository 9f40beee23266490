-- One answer for each call of the functions of `startindex`: the number, or the answer and the index, by an equation each.
use mathlib.Core.Path.{refl}
use Rattle.startindex.proofs as startindex
use Rattle.startindex.specs.contracts as startindex_contracts
use Rattle.agreement.specs.Agreement.{Agree}
use Rattle.agreement.proofs.Same.{one}

pub ones_of-agrees : Agree startindex_contracts.ones_of.ended startindex.ones_of.Reads.Asked startindex.ones_of.Reads.Learnt
ones_of-agrees κs a asked r r' ws ws' p p' = (one p.0 p'.0, refl)

pub words-needed-agrees : Agree startindex_contracts.words_needed.ended startindex.words_needed.Reads.Asked startindex.words_needed.Reads.Learnt
words-needed-agrees κs a asked r r' ws ws' p p' = (one p p', refl)

pub index-starts-agrees : Agree startindex_contracts.index_starts.ended startindex.index_starts.Reads.Asked startindex.index_starts.Reads.Learnt
index-starts-agrees κs a asked r r' ws ws' p p' = (one p.0 p'.0, λ i. (tt, (tt, (one p.1 p'.1 i, tt))))
