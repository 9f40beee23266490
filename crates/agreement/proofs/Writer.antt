-- One answer for each call of the functions of `writer`: answer and output, by an equation each.
use Rattle.grammar.proofs.Numbered.{numbered_injective}
use Rattle.writer.proofs as writer
use Rattle.writer.specs.contracts as writer_contracts
use Rattle.agreement.specs.Agreement.{Agree}
use Rattle.agreement.proofs.Same.{one}

pub serialize_value-agrees : Agree writer_contracts.serialize_value.ended writer.serialize_value.Reads.Asked writer.serialize_value.Reads.Learnt
serialize_value-agrees κs a asked r r' ws ws' p p' = (numbered_injective r r' (one p.answers p'.answers), λ i. (tt, (tt, (tt, (tt, (tt, (tt, (tt, (one p.holds p'.holds i, tt)))))))))
