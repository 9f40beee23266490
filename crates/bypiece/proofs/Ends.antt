-- The end's steps: what its tests decide, and what the records hold after one or two fills.
use mathlib.Core.Path.{◌≡◌, sym, ap, subst, ◌∙◌}
use mathlib.Core.Bool.{false}
use mathlib.Core.List.{List, [], ◌∷◌, ◌++◌, map}
use Prim.Native.Nat.{ℕ, ◌+◌, ◌-◌, ◌*◌, ◌≤◌, min}
use native.Mathlib.Omega.{arith}
use lib.ListN.{length, replicate, take, drop, length-replicate}
use lib.Seq.{sets}
use Rattle.lineentry.specs.declared.Location.{Location}
use Rattle.lineentry.specs.declared.Span.{Span}
use Rattle.lineentry.specs.declared.Entry.{Entry}
use Rattle.lineentry.specs.declared.Entry.TheVariants.{Covers}
use Rattle.lineentry.specs.Entry.{at_line, entry_at}
use Rattle.linetable.specs.Answer.{numbers}
use Rattle.piecestate.specs.declared.Kept.{Kept}
use Rattle.piecestate.specs.State.{over, ended, low, held_in, held_at}
use Rattle.std.specs.Prelude.{Ok}
use Rattle.piecestate.specs.declared.Pieced.{Pieced}
use Rattle.piecestate.specs.Answers.{Answer, Leaves, pieced, told}
use Rattle.piecestate.proofs.Stores.{front-sets, length_held, part_held}
use Rattle.pieces.specs.Facts.{Entered}
use Rattle.pieces.proofs.Enters.{goes, all_counts}
use Rattle.pieces.proofs.Placing.{two_goes}
use Rattle.bypiece.specs.Facts.{Ending}
use Rattle.pieces.specs.Calls.{by_held}

-- ---- the records
pub fills-both : (s rs : List ℕ) (k : Kept) (e : Span) {n : ℕ} {l : Location} {y : Pieced} {s' rs₁ rs' : List ℕ} → n ≡ min e.instructions (k.count - k.placed) → l ≡ at_line k.first
    → rs₁ ≡ sets rs (4 * k.placed) (numbers (replicate n e.location)) → rs' ≡ sets rs₁ (4 * (k.placed + n)) (numbers (replicate (k.count - k.placed - n) l))
    → y ≡ pieced (k.placed + n) false → s' ≡ sets s 6 (ended ∷ []) → Leaves (by_held s rs k (k.count - k.placed) (Covers e)) (Ok y) s' rs'
fills-both s rs k e {n} {l} {y} {s'} {rs₁} {rs'} m z f g a b =
    let left = k.count - k.placed in
    let w : left - n ≡ left - e.instructions = omega arith in
    let two = two_goes rs k.placed n (replicate n e.location) (replicate (left - n) l) (length-replicate {A = Location} n e.location) in
    record {
      answers = ap Ok a ∙ ap (λ i. told (k.placed + i) false) m;
      states = b;
      fills =
          g ∙ ap (λ x. sets x (4 * (k.placed + n)) (numbers (replicate (left - n) l))) f ∙ sym two
          ∙ ap (λ i. sets rs (4 * k.placed) (numbers (replicate i e.location ++ replicate (left - n) l))) m
          ∙ ap (λ i. sets rs (4 * k.placed) (numbers (replicate (min e.instructions left) e.location ++ replicate i l))) w
          ∙ ap (λ x. sets rs (4 * k.placed) (numbers (replicate (min e.instructions left) e.location ++ replicate (left - e.instructions) x))) z;
    }

-- ---- the entry of the held bytes
module _ (s rs : List ℕ) {k : Kept} (g : Ending k s rs) (short : k.size ≤ 25) where
  pub read_held : (out : List ℕ) {held : List ℕ} {x : Entry} → length out ≡ 25 → held ≡ sets out 0 (map low (take (10 + k.size - 10) (drop 10 s))) → x ≡ entry_at (take k.size held) k.line 0
      → x ≡ entry_at (held_at s) k.line 0
  unfolding held_at
  read_held out o e r =
      let f : take k.size (sets out 0 (held_in s k.size)) ≡ held_in s k.size = front-sets out (held_in s k.size) k.size (length_held s k.size short g.numbers) (omega arith) in
      r ∙ ap (λ t. entry_at t k.line 0) (ap (take k.size) (e ∙ ap (sets out 0) (part_held s k.size)) ∙ f ∙ ap (held_in s) (ap (λ y. y.size) g.keeps))

pub by_entry : (s rs : List ℕ) (k : Kept) {x z : Entry} (n : ℕ) → x ≡ z → {w : Entry} → x ≡ w → {y : Answer} {s' rs' : List ℕ} → Leaves (by_held s rs k n w) y s' rs' → Leaves (by_held s rs k n z) y s' rs'
by_entry s rs k n e f {y} {s'} {rs'} l = subst (λ i. Leaves (by_held s rs k n i) y s' rs') (sym f ∙ e) l

-- ---- which way the end goes
module _ (s rs : List ℕ) (k : Kept) (g : Entered k s rs) where
  pub ending : Ending k s rs
  ending = record { numbers = g.numbers; keeps = g.keeps; few = (all_counts k s rs g).few; room = g.room }

  pub held_few : (k.status ≡ over → ⊥) → k.size ≤ 25
  held_few o = (goes k s rs g o).short
