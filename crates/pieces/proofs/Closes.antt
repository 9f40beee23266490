-- Which way the end goes, by where the reading stands.
use mathlib.Core.Path.{◌≡◌}
use mathlib.Core.List.{List, []}
use Prim.Native.Nat.{ℕ, ◌-◌}
use lib.Dec.{eqb}
use borrow.Author.Tests.{eq-eqb, ne_eqb}
use Rattle.lineentry.specs.declared.Entry.TheVariants.{Stop}
use Rattle.lineentry.specs.Entry.{entry_at}
use Rattle.piecestate.specs.declared.Kept.{Kept}
use Rattle.piecestate.specs.State.{over, held_at}
use Rattle.pieces.specs.Calls.{finished, by_held, end_by}

pub end_over : (s rs : List ℕ) (k : Kept) → k.status ≡ over → end_by s rs k ≡ by_held s rs k (k.count - k.placed) Stop
unfolding end_by
end_over s rs k h = rw (eq-eqb k.status over h)

pub end_placed : (s rs : List ℕ) (k : Kept) → (k.status ≡ over → ⊥) → k.placed ≡ k.count → end_by s rs k ≡ finished s rs k.placed k.placed (eqb k.start k.bytes) []
unfolding end_by
end_placed s rs k o h = rw (ne_eqb k.status over o, eq-eqb k.placed k.count h)

pub end_held_by : (s rs : List ℕ) (k : Kept) → (k.status ≡ over → ⊥) → (k.placed ≡ k.count → ⊥) → end_by s rs k ≡ by_held s rs k (k.count - k.placed) (entry_at (held_at s) k.line 0)
unfolding end_by
end_held_by s rs k o h = rw (ne_eqb k.status over o, ne_eqb k.placed k.count h)
