-- One answer for each call of the functions of `keepmove`: the four stores, where the scratch holds what a visit found.
use mathlib.Core.Path.{◌≡◌}
use Prim.Native.Nat.{ℕ}
use mathlib.Core.List.{List}
use lib.ListN.{length}
use Rattle.keepvisit.specs.Visit.{stores}
use Rattle.keepvisit.specs.Found.{Found}
use Rattle.keepmove.proofs as keepmove
use Rattle.keepmove.specs.contracts as keepmove_contracts
use Rattle.agreement.specs.Agreement.{AgreeAs}
use Rattle.agreement.proofs.Same.{one}

pub move_all_agrees : AgreeAs keepmove_contracts.move_all.ended
    (λ κs a r r' ws ws'.
    (order : List ℕ) → Found (stores a.0.now a.1.0.now a.1.1.1.1.0 a.1.1.1.1.1.0) order a.1.1.1.0.now
    → a.1.1.1.1.1.1.0 ≡ length order → ws ≡ ws')
    keepmove.move_all.Reads.Asked keepmove.move_all.Reads.Learnt
move_all_agrees κs a asked r r' ws ws' p p' order f e i = (
  one (p.node_store order f e) (p'.node_store order f e) i,
  (
    one (p.entry_store order f e) (p'.entry_store order f e) i,
    (
      one p.slot_store p'.slot_store i,
      (one p.cleared p'.cleared i, (tt, (tt, (tt, (tt, tt))))),
    ),
  ),
)
