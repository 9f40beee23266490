-- One answer for each call of the functions of `pieces`: answer and stores, by an equation each.
use Rattle.pieces.proofs as pieces
use Rattle.pieces.specs.contracts as pieces_contracts
use Rattle.agreement.specs.Agreement.{Agree}
use Rattle.agreement.proofs.Same.{one}

pub take-piece-agrees : Agree pieces_contracts.take_piece.ended pieces.take_piece.Reads.Asked pieces.take_piece.Reads.Learnt
take-piece-agrees κs a asked r r' ws ws' p p' = (one p.answers p'.answers, λ i. (tt, (tt, (one p.states p'.states i, (one p.fills p'.fills i, tt)))))

pub go_on-agrees : Agree pieces_contracts.go_on.ended pieces.go_on.Reads.Asked pieces.go_on.Reads.Learnt
go_on-agrees κs a asked r r' ws ws' p p' = (one p.0 p'.0, λ i. (one p.1 p'.1 i, (tt, (tt, tt))))

pub go_bare_agrees : Agree pieces_contracts.go_bare.ended pieces.go_bare.Reads.Asked pieces.go_bare.Reads.Learnt
go_bare_agrees κs a asked r r' ws ws' p p' = (one p.0 p'.0, λ i. (one p.1 p'.1 i, (tt, tt)))
