-- What each call comes to by what was looked at first, and the start by its tests.
use lib.IntN.{ℤ}
use mathlib.Core.Path.{◌≡◌, sym, ap, subst, ◌∙◌}
use mathlib.Core.Bool.{false}
use mathlib.Core.List.{List}
use Prim.Native.Nat.{ℕ, ◌/◌, ◌≤◌, ◌<◌}
use lib.ListN.{length}
use mir.Syntax.{w32}
use mir.Val.{to_z, of_z, SFits}
use mir.Facts.{to_z-of_z}
use Rattle.std.specs.Prelude.{Err}
use Rattle.refusals.specs.Faults.{fault}
use Rattle.refusals.specs.declared.Fault.{Fault}
use Rattle.refusals.specs.declared.Refusal.TheVariants.{NoRoom}
use Rattle.clearing.specs.Lent.{zeros}
use Rattle.lineentry.specs.Line.{as_signed}
use Rattle.linetable.specs.Answer.{first_line_of}
use Rattle.piecestate.specs.declared.Kept.{Kept}
use Rattle.piecestate.specs.declared.Gate.{Gate}
use Rattle.piecestate.specs.declared.Gate.TheVariants.{Open, Shut, Stuck}
use Rattle.piecestate.specs.State.{kept_at}
use Rattle.piecestate.specs.Answers.{Answer, Left, Leaves, told, stuck, no_state, gate}
use Rattle.pieces.specs.Piece.{piece_by}
use Rattle.pieces.specs.Calls.{piece, end_by, end, fresh, begin}
use Rattle.pieces.proofs.Gates.{goes_in, is_shut, is_stuck, is_none}
use Rattle.pieces.proofs.Begins.{begin_none, begin-few, begin_on}

pub leaves_same : {x y : Left} → x ≡ y → {r : Answer} {s rs : List ℕ} → Leaves y r s rs → Leaves x r s rs
leaves_same e {r} {s} {rs} l = subst (λ x. Leaves x r s rs) (sym e) l

-- ---- a piece
module _ (v s rs : List ℕ) where
  pub piece_none : length s < 40 → {y : Answer} {s' rs' : List ℕ} → Leaves (no_state s rs) y s' rs' → Leaves (piece v s rs) y s' rs'
  unfolding piece
  piece_none h l = is_none s rs (piece_by v s rs (kept_at s)) h l

  module _ (h : 40 ≤ length s) {k : Kept} {g : Gate} (e : k ≡ kept_at s) (a : g ≡ gate s k (length rs / 4)) where
    pub piece-shut : {why : Fault} → g ≡ Shut why → {y : Answer} {rs' : List ℕ} → (y ≡ Err why) × (rs' ≡ zeros (length rs)) → Leaves (piece v s rs) y s rs'
    unfolding piece
    piece-shut {why} o l = is_shut s rs h e a (piece_by v s rs (kept_at s)) why o l

    pub piece-stuck : {why : Fault} → g ≡ Stuck why → {y : Answer} {s' rs' : List ℕ} → Leaves (stuck s rs why) y s' rs' → Leaves (piece v s rs) y s' rs'
    unfolding piece
    piece-stuck {why} o l = is_stuck s rs h e a (piece_by v s rs (kept_at s)) why o l

    pub piece_open : g ≡ Open → {y : Answer} {s' rs' : List ℕ} → Leaves (piece_by v s rs k) y s' rs' → Leaves (piece v s rs) y s' rs'
    unfolding piece
    piece_open o l = goes_in s rs h e a (piece_by v s rs) o l

-- ---- the end
module _ (s rs : List ℕ) where
  pub end_none : length s < 40 → {y : Answer} {s' rs' : List ℕ} → Leaves (no_state s rs) y s' rs' → Leaves (end s rs) y s' rs'
  unfolding end
  end_none h l = is_none s rs (end_by s rs (kept_at s)) h l

  module _ (h : 40 ≤ length s) {k : Kept} {g : Gate} (e : k ≡ kept_at s) (a : g ≡ gate s k (length rs / 4)) where
    pub end_shut : {why : Fault} → g ≡ Shut why → {y : Answer} {rs' : List ℕ} → (y ≡ Err why) × (rs' ≡ zeros (length rs)) → Leaves (end s rs) y s rs'
    unfolding end
    end_shut {why} o l = is_shut s rs h e a (end_by s rs (kept_at s)) why o l

    pub end_stuck : {why : Fault} → g ≡ Stuck why → {y : Answer} {s' rs' : List ℕ} → Leaves (stuck s rs why) y s' rs' → Leaves (end s rs) y s' rs'
    unfolding end
    end_stuck {why} o l = is_stuck s rs h e a (end_by s rs (kept_at s)) why o l

    pub end_open_lem : g ≡ Open → {y : Answer} {s' rs' : List ℕ} → Leaves (end_by s rs k) y s' rs' → Leaves (end s rs) y s' rs'
    unfolding end
    end_open_lem o l = goes_in s rs h e a (end_by s rs) o l

-- ---- the start
module _ (z : ℤ) (count : ℕ) (s rs : List ℕ) where
  pub start_none : length s < 40 → {y : Answer} {s' rs' : List ℕ} → Leaves (no_state s rs) y s' rs' → Leaves (begin (first_line_of z) count s rs) y s' rs'
  start_none h l = leaves_same (begin_none (first_line_of z) count s rs h) l

  module _ (fits : SFits w32 z) {b f : ℕ} (n : b ≡ of_z w32 (to_z w32 (of_z w32 z))) (m : f ≡ as_signed b) {s₁ : List ℕ} (e : s₁ ≡ fresh f count s) (h : 40 ≤ length s) where
    fresh-is : s₁ ≡ fresh (first_line_of z) count s
    fresh-is = e ∙ ap (λ i. fresh i count s) (m ∙ ap as_signed (n ∙ ap (of_z w32) (to_z-of_z fits)))

    pub start_few : length rs / 4 < count → {why : Fault} → why ≡ fault NoRoom (length rs / 4) → {y : Answer} {s' rs' : List ℕ} → Leaves (stuck s₁ rs why) y s' rs' → Leaves (begin (first_line_of z) count s rs) y s' rs'
    start_few k {why} f {y} {s'} {rs'} l =
        leaves_same (begin-few (first_line_of z) count s rs h k) (subst (λ t. Leaves (stuck t rs (fault NoRoom (length rs / 4))) y s' rs') fresh-is (subst (λ w. Leaves (stuck s₁ rs w) y s' rs') f l))

    pub start_on : count ≤ length rs / 4 → {y : Answer} {rs' : List ℕ} → (y ≡ told 0 false) × (rs' ≡ zeros (length rs)) → Leaves (begin (first_line_of z) count s rs) y s₁ rs'
    start_on k l = leaves_same (begin_on (first_line_of z) count s rs h k) (record { answers = l.0; states = fresh-is; fills = l.1 })
