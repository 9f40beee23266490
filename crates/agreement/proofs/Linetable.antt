-- One answer for each call of the functions of `linetable`: answer and stores, by an equation each.
use mathlib.Core.Path.{◌≡◌, refl}
use Prim.Native.Nat.{◌/◌, min}
use lib.ListN.{length}
use base.Logic.{id⊢}
use contract.Monad.{fact}
use Rattle.linetable.specs.Walk.{Reading}
use Rattle.linetable.specs.Answer.{located, first_line_of, answer, numbered, records_of, locations_of}
use Rattle.linetable.proofs.Outcomes.{numbered_injective}
use denote.RattleType.{RattleType}
use denote.Param.Laws.{Laws}
use Rattle.linetable.proofs as linetable
use Rattle.linetable.specs.contracts as linetable_contracts
use Rattle.agreement.specs.Agreement.{Tells, Agree, AgreeInModels}
use Rattle.agreement.proofs.Same.{one, in_models}

pub refuse_agrees : (E : RattleType) (laws : Laws E)
    → Agree (linetable_contracts.refuse.ended E) (linetable.refuse.Reads.Asked E laws) (linetable.refuse.Reads.Learnt E laws)
refuse_agrees E laws κs a asked r r' ws ws' p p' = (one p.0 p'.0, λ i. (one p.1 p'.1 i, (tt, tt)))

pub linetable_to-records-agrees : Agree linetable_contracts.linetable_to_records.ended linetable.linetable_to_records.Reads.Asked linetable.linetable_to_records.Reads.Learnt
linetable_to-records-agrees κs a asked r r' ws ws' p p' = (numbered_injective _ _ (one p.0 p'.0), λ i. (tt, (tt, (tt, (one p.1 p'.1 i, tt)))))

pub fill-agrees : Agree linetable_contracts.fill.ended linetable.fill.Reads.Asked linetable.fill.Reads.Learnt
fill-agrees κs a asked r r' ws ws' p p' = (refl, λ i. (one p p' i, (tt, (tt, (tt, tt)))))

-- The layer over a slice of `Location`. Its clauses, as they stand in the source, say a plain fact in every model.
abbrev placed : Tells linetable_contracts.linetable_to_locations.ended
placed κs a r e =
    let reading : Reading = located a.0.now (first_line_of a.1.0) a.1.1.0 (min (length a.1.1.1.0.now / 4) (length a.1.1.1.1.0.now)) in
    (numbered r ≡ answer reading)
    × (e.1.1.1.0.now ≡ records_of (length a.1.1.1.0.now) reading)
    × (e.1.1.1.1.0.now ≡ locations_of (length a.1.1.1.1.0.now) reading)

pub linetable_to-locations-agrees : AgreeInModels linetable_contracts.linetable_to_locations.ended (λ M 𝓤. linetable_contracts.linetable_to_locations.clauses)
linetable_to-locations-agrees =
    in_models linetable_contracts.linetable_to_locations.ended (λ M 𝓤. linetable_contracts.linetable_to_locations.clauses) placed
    (λ M 𝓤 𝓛 mem run κs a g r e. id⊢ 𝓤 (fact 𝓤 (placed κs a r e)))
    (λ κs a asked r r' ws ws' p p'.
    (numbered_injective _ _ (one p.0 p'.0), λ i. (tt, (tt, (tt, (one p.1 p'.1 i, (one p.2 p'.2 i, tt)))))))
