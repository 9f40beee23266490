-- How the calls by piece end, for demand 1: their own ends, handed on as numbers. Assumes nothing.
use mathlib.Core.Path.{◌≡◌, ap, ◌∙◌}
use mathlib.Core.List.{List}
use Prim.Native.Nat.{ℕ}
use lib.ListN.{length}
use Rattle.refusals.specs.Faults.{number_of}
use Rattle.refusals.proofs.Faults.{number_in_table}
use Rattle.piecestate.specs.Answers.{Left}
use Rattle.cuttings.proofs.Answered.{CallEnds, answers as call-answers, refuses as call-refuses}
use Rattle.sillgarland.specs.Pieces.{pieced_struct}
use Rattle.sillgarland.specs.declared.locations.SillLocated.{SillLocated}
use Rattle.promises.specs.Demand1.{Ends, answers, refuses, Zero, LocateEnds}

pub pieced-ends : (lent : List ℕ) {x : Left} → CallEnds (length lent) x → {r : SillLocated} {left : List ℕ} → r ≡ pieced_struct x.answer → left ≡ x.records → LocateEnds r (Zero lent left)
pieced-ends lent (call-answers k w e) a f = answers (k, w) (a ∙ ap pieced_struct e)
pieced-ends lent (call-refuses why e z) a f = refuses (number_of why.refusal) why.place (number_in_table why.refusal) (a ∙ ap pieced_struct e) (f ∙ z)
