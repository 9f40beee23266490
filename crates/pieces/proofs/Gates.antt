-- What the gate before a piece and the end says, and what a call then comes to.
use mathlib.Core.Path.{◌≡◌, refl, sym, ap, subst, ◌∙◌}
use mathlib.Core.Bool.{Bool, true, false, cond}
use mathlib.Core.List.{List}
use Prim.Native.Nat.{ℕ, ◌/◌, ◌≤◌, ◌<◌}
use native.Mathlib.Omega.{arith}
use lib.ListN.{length}
use lib.Dec.{ltb, eqb}
use borrow.Author.Tests.{lt-ltb, le-ltb, ltb-false, eq-eqb, ne_eqb, eqb-false}
use Rattle.std.specs.Prelude.{Err}
use Rattle.refusals.specs.declared.Fault.{Fault}
use Rattle.refusals.specs.declared.Refusal.TheVariants.{AlreadyEnded, NoRoom}
use Rattle.refusals.specs.Faults.{fault}
use Rattle.piecestate.specs.declared.Kept.{Kept}
use Rattle.piecestate.specs.declared.Gate.{Gate}
use Rattle.piecestate.specs.declared.Gate.TheVariants.{Open, Shut, Stuck}
use Rattle.piecestate.specs.State.{refusing, ended, kept_at, kept_why, sound_by}
use Rattle.piecestate.specs.Answers.{Answer, Left, Leaves, shut, stuck, no_state, gate}
use Rattle.pieces.specs.Facts.{Entered}
use Rattle.pieces.specs.Calls.{through, called}

-- ---- an open gate
record Opens (s : List ℕ) (k : Kept) (room : ℕ) : Type 0 where
  sounds : sound_by s k ≡ true
  stands : k.status ≡ refusing → ⊥
  lasts : k.status ≡ ended → ⊥
  enough : k.count ≤ room

opens : (s : List ℕ) (k : Kept) (room : ℕ) → gate s k room ≡ Open → Opens s k room
unfolding gate
opens s k room h = a (sound_by s k) refl h where
  d : sound_by s k ≡ true → eqb k.status refusing ≡ false → eqb k.status ended ≡ false → (t : Bool) → ltb room k.count ≡ t → cond t (Stuck (fault NoRoom room)) Open ≡ Open → Opens s k room
  d x y z true e q = let w : ◌≡◌ {A = ℕ} 0 1 = cc in absurd (omega arith)
  d x y z false e q = record { sounds = x; stands = eqb-false k.status refusing y; lasts = eqb-false k.status ended z; enough = ltb-false room k.count e }

  c : sound_by s k ≡ true → eqb k.status refusing ≡ false → (t : Bool) → eqb k.status ended ≡ t
      → cond t (Shut (fault AlreadyEnded 0)) (cond (ltb room k.count) (Stuck (fault NoRoom room)) Open) ≡ Open → Opens s k room
  c x y true e q = let w : ◌≡◌ {A = ℕ} 0 1 = cc in absurd (omega arith)
  c x y false e q = d x y e (ltb room k.count) refl q

  b : sound_by s k ≡ true → (t : Bool) → eqb k.status refusing ≡ t
      → cond t (Shut (fault (kept_why k.refusal) k.place)) (cond (eqb k.status ended) (Shut (fault AlreadyEnded 0)) (cond (ltb room k.count) (Stuck (fault NoRoom room)) Open)) ≡ Open → Opens s k room
  b x true e q = let w : ◌≡◌ {A = ℕ} 0 1 = cc in absurd (omega arith)
  b x false e q = c x e (eqb k.status ended) refl q

  a : (t : Bool) → sound_by s k ≡ t
      → cond t (cond (eqb k.status refusing) (Shut (fault (kept_why k.refusal) k.place)) (cond (eqb k.status ended) (Shut (fault AlreadyEnded 0)) (cond (ltb room k.count) (Stuck (fault NoRoom room)) Open))) (Shut (fault AlreadyEnded 0)) ≡ Open → Opens s k room
  a true e q = b e (eqb k.status refusing) refl q
  a false e q = let w : ◌≡◌ {A = ℕ} 0 1 = cc in absurd (omega arith)

pub entered : (s rs : List ℕ) {k : Kept} {g : Gate} → 40 ≤ length s → k ≡ kept_at s → g ≡ gate s k (length rs / 4) → g ≡ Open → Entered k s rs
entered s rs {k} h e a o =
    let x = opens s k (length rs / 4) (sym a ∙ o) in
    record { numbers = h; keeps = e; sounds = x.sounds; stands = x.stands; lasts = x.lasts; room = omega (arith, x.enough) }

-- ---- what the gate says of a state
module _ (s : List ℕ) (k : Kept) (room : ℕ) where
  pub open_gate : sound_by s k ≡ true → (k.status ≡ 3 → ⊥) → (k.status ≡ 4 → ⊥) → k.count ≤ room → gate s k room ≡ Open
  unfolding gate
  open_gate a b c d = rw (a, ne_eqb k.status 3 b, ne_eqb k.status 4 c, le-ltb room k.count d)

  pub refused-gate : sound_by s k ≡ true → k.status ≡ 3 → gate s k room ≡ Shut (fault (kept_why k.refusal) k.place)
  unfolding gate
  refused-gate a b = rw (a, eq-eqb k.status 3 b)

  pub ended-gate : sound_by s k ≡ true → k.status ≡ 4 → gate s k room ≡ Shut (fault AlreadyEnded 0)
  unfolding gate
  ended-gate a b = rw (a, ne_eqb k.status 3 (λ y. absurd (omega arith)), eq-eqb k.status 4 b)

  pub room-gate : sound_by s k ≡ true → (k.status ≡ 3 → ⊥) → (k.status ≡ 4 → ⊥) → room < k.count → gate s k room ≡ Stuck (fault NoRoom room)
  unfolding gate
  room-gate a b c d = rw (a, ne_eqb k.status 3 b, ne_eqb k.status 4 c, lt-ltb room k.count d)

  pub other-gate : sound_by s k ≡ false → gate s k room ≡ Shut (fault AlreadyEnded 0)
  unfolding gate
  other-gate a = rw a

-- ---- what a call comes to, by its gate
module _ (s rs : List ℕ) (h : 40 ≤ length s) where
  within : (on : Left) → called s rs on ≡ through s rs on (gate s (kept_at s) (length rs / 4))
  within on = ap (λ t. cond t (no_state s rs) (through s rs on (gate s (kept_at s) (length rs / 4)))) (le-ltb (length s) 40 h)

  pub by_gate : (on : Left) (g : Gate) → gate s (kept_at s) (length rs / 4) ≡ g → called s rs on ≡ through s rs on g
  by_gate on g e = within on ∙ ap (through s rs on) e

  module _ {k : Kept} {g : Gate} (e : k ≡ kept_at s) (a : g ≡ gate s k (length rs / 4)) where
    is : gate s (kept_at s) (length rs / 4) ≡ g
    is = ap (λ y. gate s y (length rs / 4)) (sym e) ∙ sym a

    pub goes_in : (on : Kept → Left) → g ≡ Open → {y : Answer} {s' rs' : List ℕ} → Leaves (on k) y s' rs' → Leaves (called s rs (on (kept_at s))) y s' rs'
    goes_in on o {y} {s'} {rs'} l =
        subst (λ x. Leaves x y s' rs') (sym (by_gate (on (kept_at s)) Open (is ∙ o) ∙ ap on (sym e))) l

    pub is_shut : (on : Left) (why : Fault) → g ≡ Shut why → {y : Answer} {rs' : List ℕ} → (y ≡ Err why) × (rs' ≡ (shut s rs why).records) → Leaves (called s rs on) y s rs'
    is_shut on why o {y} {rs'} l =
        subst (λ x. Leaves x y s rs') (sym (by_gate on (Shut why) (is ∙ o))) (record { answers = l.0; states = refl; fills = l.1 })

    pub is_stuck : (on : Left) (why : Fault) → g ≡ Stuck why → {y : Answer} {s' rs' : List ℕ} → Leaves (stuck s rs why) y s' rs' → Leaves (called s rs on) y s' rs'
    is_stuck on why o {y} {s'} {rs'} l = subst (λ x. Leaves x y s' rs') (sym (by_gate on (Stuck why) (is ∙ o))) l

pub is_none : (s rs : List ℕ) (on : Left) → length s < 40 → {y : Answer} {s' rs' : List ℕ} → Leaves (no_state s rs) y s' rs' → Leaves (called s rs on) y s' rs'
is_none s rs on h {y} {s'} {rs'} l =
    subst (λ t. Leaves (cond t (no_state s rs) (through s rs on (gate s (kept_at s) (length rs / 4)))) y s' rs') (sym (lt-ltb (length s) 40 h)) l
