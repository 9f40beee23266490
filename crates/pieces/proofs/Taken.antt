-- The step over held bytes: what its entry says of places and counts, and what both ways come to.
use mathlib.Core.Path.{◌≡◌, refl, sym, ap, subst, ◌∙◌}
use mathlib.Core.Bool.{Bool, true, false, cond}
use mathlib.Core.List.{List, ◌++◌}
use Prim.Native.Nat.{ℕ, ◌+◌, ◌-◌, ◌*◌, ◌≤◌, ◌<◌}
use native.Mathlib.Omega.{arith}
use lib.ListN.{length, replicate, take, drop, get_or, length-append, length-drop}
use lib.Seq.{sets, length-take-le, take_all}
use lib.Dec.{ltb}
use borrow.Author.Tests.{ltb-true, ltb-false}
use Rattle.lineentry.specs.declared.Span.{Span}
use Rattle.lineentry.specs.declared.Entry.{Entry}
use Rattle.lineentry.specs.declared.Entry.TheVariants.{Covers, Stop, OutOfRange}
use Rattle.lineentry.specs.Entry.{entry_at}
use Rattle.linetable.specs.Answer.{numbers}
use Rattle.rows.proofs.Extent.{entry_runs}
use Rattle.std.specs.Prelude.{Option, Some, None}
use Rattle.piecestate.specs.declared.Kept.{Kept}
use Rattle.piecestate.specs.State.{held_at, open_entry}
use Rattle.piecestate.specs.Answers.{Answer, Leaves}
use Rattle.pieces.specs.Piece.{walked, first_of}
use Rattle.pieces.specs.Facts.{Walking, Fronted}
use Rattle.piecestate.proofs.Stores.{length_held, part_all}
use Rattle.pieces.proofs.Fronts.{past_held, front-whole}
use Rattle.pieces.proofs.Others.{front-other}

-- a first entry that is complete and fits
pub record WholeIs (n : ℕ) (x : Entry) (e : Span) : Type 0 where
  pub covers : x ≡ Covers e
  pub there : e.missing ≡ false
  pub fits : e.instructions ≤ n

pub whole_is : (n : ℕ) (x : Entry) (e : Span) → first_of n x ≡ Some e → WholeIs n x e
whole_is n (Covers y) e h = on y.missing refl (ltb n y.instructions) refl h where
  on : (a : Bool) → y.missing ≡ a → (b : Bool) → ltb n y.instructions ≡ b → cond a None (cond b None (Some y)) ≡ Some e → WholeIs n (Covers y) e
  on true p b q k = let z : ◌≡◌ {A = ℕ} 0 1 = cc in absurd (omega arith)
  on false p true q k = let z : ◌≡◌ {A = ℕ} 0 1 = cc in absurd (omega arith)
  on false p false q k =
      let z : y ≡ e = cc in
      record { covers = ap Covers z; there = sym (ap (λ i. i.missing) z) ∙ p; fits = subst (λ i. i.instructions ≤ n) z (ltb-false n y.instructions q) }
whole_is n Stop e h = let z : ◌≡◌ {A = ℕ} 0 1 = cc in absurd (omega arith)
whole_is n OutOfRange e h = let z : ◌≡◌ {A = ℕ} 0 1 = cc in absurd (omega arith)

taken : (v : List ℕ) → length (take 25 v) ≤ length v
taken v = on (ltb (length v) 25) refl where
  on : (t : Bool) → ltb (length v) 25 ≡ t → length (take 25 v) ≤ length v
  on true h = omega (arith, ap length (take_all 25 v (omega (arith, ltb-true (length v) 25 h))))
  on false h = omega (arith, length-take-le 25 v (ltb-false (length v) 25 h), ltb-false (length v) 25 h)

module _ (front v : List ℕ) (bytes : ℕ) (k : Kept) (s rs : List ℕ) (g : Fronted front v bytes k s rs) where
  size_is : length (held_at s) ≡ k.size
  unfolding held_at
  size_is =
      let z : k.size ≡ get_or s 9 0 = ap (λ y. y.size) g.opened.keeps in
      length_held s (get_or s 9 0) (omega (arith, g.opened.short)) g.opened.numbers ∙ sym z

  opens : open_entry (held_at s) k.line ≡ true
  opens = g.opened.opens g.some

  front_length : length front ≤ k.size + length v
  front_length = let l : length front ≡ length (held_at s) + length (take 25 v) = ap length g.begins ∙ length-append (held_at s) (take 25 v) in omega (arith, l, size_is, taken v)

  -- the bytes in front alone
  pub other_walks : Walking front k.start k.placed k.count s rs
  other_walks = record { numbers = g.opened.numbers; small = omega (arith, g.opened.small, front_length); few = g.opened.few; room = g.opened.room }

  pub other-leaves : {r : Option Span} → k.line < 4294967296 → r ≡ first_of (k.count - k.placed) (entry_at front k.line 0) → r ≡ None → {y : Answer} {s' rs' : List ℕ}
      → Leaves (walked front k.start bytes k.line k.placed k.count s rs) y s' rs' → Leaves (walked (held_at s ++ v) k.start bytes k.line k.placed k.count s rs) y s' rs'
  other-leaves b a o {y} {s'} {rs'} l =
      let q : None ≡ first_of (k.count - k.placed) (entry_at (held_at s ++ take 25 v) k.line 0) = subst (λ f. None ≡ first_of (k.count - k.placed) (entry_at f k.line 0)) g.begins (sym o ∙ a) in
      let w = front-other (held_at s) v k.start bytes k.line k.placed k.count s rs b (omega (arith, size_is, g.some)) q in
      subst (λ x. Leaves x y s' rs') (sym (w ∙ ap (λ f. walked f k.start bytes k.line k.placed k.count s rs) (sym g.begins))) l

  module _ {r : Option Span} (e : Span) (a : r ≡ first_of (k.count - k.placed) (entry_at front k.line 0)) (w : r ≡ Some e) where
    is : WholeIs (k.count - k.placed) (entry_at front k.line 0) e
    is = whole_is (k.count - k.placed) (entry_at front k.line 0) e (sym a ∙ w)

    there : entry_at (held_at s ++ take 25 v) k.line 0 ≡ Covers e
    there = subst (λ f. entry_at f k.line 0 ≡ Covers e) g.begins is.covers

    pub fits : e.instructions ≤ k.count - k.placed
    fits = is.fits

    pub from_low : k.size ≤ e.next
    from_low = omega (arith, size_is, past_held (held_at s) (take 25 v) k.line e opens there is.there)

    pub from_high : e.next ≤ k.size + length v
    from_high = omega (arith, front_length, (entry_runs front k.line 0 e is.covers).upto)

    pub whole_walks : {rs₁ : List ℕ} → length rs₁ ≡ length rs
        → Walking (take (length v - (e.next - k.size)) (drop (e.next - k.size) v)) (k.start + e.next) (k.placed + e.instructions) k.count s rs₁
    whole_walks h =
        record {
          numbers = g.opened.numbers;
          small = omega (arith, ap length (part_all v (e.next - k.size)), length-drop (e.next - k.size) v, g.opened.small, from_low, from_high);
          few = omega (arith, fits, g.opened.few);
          room = omega (arith, g.opened.room, h);
        }

    pub whole-leaves : {rs₁ : List ℕ} → rs₁ ≡ sets rs (4 * k.placed) (numbers (replicate e.instructions e.location)) → {y : Answer} {s' rs' : List ℕ}
        → Leaves (walked (take (length v - (e.next - k.size)) (drop (e.next - k.size) v)) (k.start + e.next) bytes e.line (k.placed + e.instructions) k.count s rs₁) y s' rs'
        → Leaves (walked (held_at s ++ v) k.start bytes k.line k.placed k.count s rs) y s' rs'
    whole-leaves {rs₁} f {y} {s'} {rs'} l =
        let h = front-whole (held_at s) v k.start bytes k.line k.placed k.count s rs e opens there is.there is.fits g.opened.few in
        let p : drop (e.next - length (held_at s)) v ≡ take (length v - (e.next - k.size)) (drop (e.next - k.size) v) = ap (λ i. drop (e.next - i) v) size_is ∙ sym (part_all v (e.next - k.size)) in
        subst (λ x. Leaves x y s' rs')
        (sym (h ∙ ap (λ t. walked t (k.start + e.next) bytes e.line (k.placed + e.instructions) k.count s (sets rs (4 * k.placed) (numbers (replicate e.instructions e.location)))) p
        ∙ ap (λ z. walked (take (length v - (e.next - k.size)) (drop (e.next - k.size) v)) (k.start + e.next) bytes e.line (k.placed + e.instructions) k.count s z) (sym f))) l
