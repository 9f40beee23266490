-- One answer for each call of the functions of `bypiece`: answer, state and records, by an equation each.
use Rattle.bypiece.proofs as bypiece
use Rattle.bypiece.specs.contracts as bypiece_contracts
use Rattle.agreement.specs.Agreement.{Agree}
use Rattle.agreement.proofs.Same.{one}

pub locate_begin-agrees : Agree bypiece_contracts.locate_begin.ended bypiece.locate_begin.Reads.Asked bypiece.locate_begin.Reads.Learnt
locate_begin-agrees κs a asked r r' ws ws' p p' = (one p.answers p'.answers, λ i. (tt, (tt, (one p.states p'.states i, (one p.fills p'.fills i, tt)))))

pub locate_piece-agrees : Agree bypiece_contracts.locate_piece.ended bypiece.locate_piece.Reads.Asked bypiece.locate_piece.Reads.Learnt
locate_piece-agrees κs a asked r r' ws ws' p p' = (one p.answers p'.answers, λ i. (tt, (one p.states p'.states i, (one p.fills p'.fills i, tt))))

pub take-agrees : Agree bypiece_contracts.onebyte.take.ended bypiece.onebyte.take.Reads.Asked bypiece.onebyte.take.Reads.Learnt
take-agrees κs a asked r r' ws ws' p p' = (one p.answers p'.answers, λ i. (tt, (tt, (one p.states p'.states i, (one p.fills p'.fills i, tt)))))

pub locate_end_agrees : Agree bypiece_contracts.locate_end.ended bypiece.locate_end.Reads.Asked bypiece.locate_end.Reads.Learnt
locate_end_agrees κs a asked r r' ws ws' p p' = (one p.answers p'.answers, λ i. (one p.states p'.states i, (one p.fills p'.fills i, tt)))
