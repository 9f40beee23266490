-- One answer for each call of the functions of `piecestate`: answer and stores, by an equation each.
use mathlib.Core.Path.{refl}
use denote.RattleType.{RattleType}
use denote.Param.Laws.{Laws}
use Rattle.piecestate.proofs as piecestate
use Rattle.piecestate.specs.contracts as piecestate_contracts
use Rattle.agreement.specs.Agreement.{Agree}
use Rattle.agreement.proofs.Same.{one}

pub kept_at-agrees : Agree piecestate_contracts.kept_at.ended piecestate.kept_at.Reads.Asked piecestate.kept_at.Reads.Learnt
kept_at-agrees κs a asked r r' ws ws' p p' = (one p p', refl)

pub fetch_agrees : Agree piecestate_contracts.fetch.ended piecestate.fetch.Reads.Asked piecestate.fetch.Reads.Learnt
fetch_agrees κs a asked r r' ws ws' p p' = (refl, λ i. (one p p' i, (tt, tt)))

pub hold_agrees : Agree piecestate_contracts.hold.ended piecestate.hold.Reads.Asked piecestate.hold.Reads.Learnt
hold_agrees κs a asked r r' ws ws' p p' = (refl, λ i. (one p p' i, (tt, tt)))

pub look-agrees : Agree piecestate_contracts.look.ended piecestate.look.Reads.Asked piecestate.look.Reads.Learnt
look-agrees κs a asked r r' ws ws' p p' = (one p p', refl)

pub refuse_agrees : (E : RattleType) (laws : Laws E)
    → Agree (piecestate_contracts.refuse.ended E) (piecestate.refuse.Reads.Asked E laws) (piecestate.refuse.Reads.Learnt E laws)
refuse_agrees E laws κs a asked r r' ws ws' p p' = (one p.0 p'.0, λ i. (one p.1 p'.1 i, (tt, tt)))

pub stick_agrees : (E : RattleType) (laws : Laws E)
    → Agree (piecestate_contracts.stick.ended E) (piecestate.stick.Reads.Asked E laws) (piecestate.stick.Reads.Learnt E laws)
stick_agrees E laws κs a asked r r' ws ws' p p' =
    (one p.0 p'.0, λ i. (one p.1 p'.1 i, (one p.2 p'.2 i, (tt, (tt, (tt, tt))))))

pub stick_fault-agrees : Agree piecestate_contracts.stick_fault.ended piecestate.stick_fault.Reads.Asked piecestate.stick_fault.Reads.Learnt
stick_fault-agrees κs a asked r r' ws ws' p p' = (one p.answers p'.answers, λ i. (one p.states p'.states i, (one p.fills p'.fills i, (tt, tt))))

pub no_state-agrees : Agree piecestate_contracts.no_state.ended piecestate.no_state.Reads.Asked piecestate.no_state.Reads.Learnt
no_state-agrees κs a asked r r' ws ws' p p' = (one p.answers p'.answers, λ i. (one p.states p'.states i, (one p.fills p'.fills i, tt)))
