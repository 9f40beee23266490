-- One answer for each call of the functions of `keepvisit`; of the scratch only what the move reads is told.
use mathlib.Core.Path.{◌≡◌}
use Prim.Native.Nat.{ℕ}
use mathlib.Core.List.{List}
use Rattle.std.specs.Prelude.{Result}
use Rattle.refusals.specs.declared.Fault.{Fault}
use Rattle.keepvisit.specs.declared.Seen.{Seen}
use Rattle.keepvisit.specs.Visit.{Stores, stores, Visited, bad, visited, visit_from}
use Rattle.keepvisit.specs.Found.{Answers}
use Rattle.keepvisit.proofs as keepvisit
use Rattle.keepvisit.specs.contracts as keepvisit_contracts
use Rattle.agreement.specs.Agreement.{AgreeAs}
use Rattle.agreement.proofs.Same.{one}

answers_one : (t : Stores) (v : Visited) (r r' : Result Seen Fault) (s s' : List ℕ) → Answers t v r s → Answers t v r' s' → r ≡ r'
answers_one t (bad place) r r' s s' p p' = one p p'
answers_one t (visited order) r r' s s' p p' = one p.0 p'.0

pub visit-agrees : AgreeAs keepvisit_contracts.visit.ended (λ κs a r r' ws ws'. r ≡ r') keepvisit.visit.Reads.Asked keepvisit.visit.Reads.Learnt
visit-agrees κs a asked r r' ws ws' p p' =
    let t = stores a.0.now a.1.0.now a.1.1.1.0 a.1.1.1.1.0 in
    answers_one t (visit_from t a.1.1.1.1.1.0) r r' ws.1.1.0 ws'.1.1.0 p p'
