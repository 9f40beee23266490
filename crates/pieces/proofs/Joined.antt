-- Held bytes and the first of a piece, one behind the other at the front of a store.
use mathlib.Core.Path.{◌≡◌, refl, sym, ap, subst, ◌∙◌}
use mathlib.Core.Bool.{Bool, true, false}
use mathlib.Core.List.{List, [], ◌++◌}
use Prim.Native.Nat.{ℕ, ◌+◌, min}
use native.Mathlib.Omega.{arith}
use lib.ListN.{length, take}
use lib.Seq.{sets, length-sets, length-take-le, take_all}
use lib.Dec.{ltb}
use borrow.Author.Tests.{ltb-true, ltb-false}
use borrow.Rule.Slice.PartMut.{put_mid}
use Rattle.std.proofs.lemmas.Slice.{take-put_mid}
use Rattle.piecestate.specs.declared.Kept.{Kept}
use Rattle.piecestate.specs.State.{held_in, held_at}
use Rattle.piecestate.specs.Answers.{Answer, Leaves}
use Rattle.pieces.specs.Piece.{walked}
use Rattle.pieces.specs.Facts.{Walking, Opened, Fronted}
use Rattle.piecestate.proofs.Stores.{length_held, front-sets}

take-most : (v : List ℕ) (m : ℕ) → m ≡ min (length v) 25 → (take m v ≡ take 25 v) × (length (take m v) ≡ m)
take-most v m e = on (ltb (length v) 25) refl where
  on : (t : Bool) → ltb (length v) 25 ≡ t → (take m v ≡ take 25 v) × (length (take m v) ≡ m)
  on true h =
      let k = ltb-true (length v) 25 h in
      let z : m ≡ length v = omega arith in
      (take_all m v (omega arith) ∙ sym (take_all 25 v (omega arith)), ap length (take_all m v (omega arith)) ∙ sym z)
  on false h =
      let k = ltb-false (length v) 25 h in
      let z : m ≡ 25 = omega arith in
      (ap (λ i. take i v) z, length-take-le m v (omega arith))

module _ (v : List ℕ) (bytes : ℕ) (k : Kept) (s rs : List ℕ) (g : Opened v bytes k s rs) where
  held_is : held_in s k.size ≡ held_at s
  unfolding held_at
  held_is = ap (held_in s) (ap (λ y. y.size) g.keeps)

  pub bare_walks : k.size ≡ 0 → Walking v k.start k.placed k.count s rs
  bare_walks h = record { numbers = g.numbers; small = omega (arith, g.small); few = g.few; room = g.room }

  pub bare_leaves : k.size ≡ 0 → {y : Answer} {s' rs' : List ℕ} → Leaves (walked v k.start bytes k.line k.placed k.count s rs) y s' rs'
      → Leaves (walked (held_at s ++ v) k.start bytes k.line k.placed k.count s rs) y s' rs'
  bare_leaves h {y} {s'} {rs'} l =
      let e : held_at s ≡ [] = sym held_is ∙ ap (held_in s) h in
      subst (λ t. Leaves (walked (t ++ v) k.start bytes k.line k.placed k.count s rs) y s' rs') (sym e) l

  pub fronts : (out : List ℕ) (n : ℕ) {a w : List ℕ} {m : ℕ} → length out ≡ 50 → m ≡ min (length v) 25 → a ≡ sets out 0 (held_in s k.size) → w ≡ take m v → (k.size ≡ 0 → ⊥)
      → Fronted (take (k.size + m) (put_mid k.size n a w)) v bytes k s rs
  fronts out n {a} {w} {m} o e p q z =
      let l = length_held s k.size g.short g.numbers in
      let t = take-most v m e in
      let c : length a ≡ 50 = ap length p ∙ length-sets out 0 (held_in s k.size) ∙ o in
      record {
        opened = g;
        some = omega (arith, z);
        begins =
            take-put_mid k.size n a w (k.size + m) (omega (arith, ap length q, t.1)) (omega (arith, c, g.short))
            ∙ ap (λ x. x ++ w) (ap (take k.size) p ∙ front-sets out (held_in s k.size) k.size l (omega (arith, g.short, o)) ∙ held_is)
            ∙ ap (λ x. held_at s ++ x) (q ∙ t.0);
      }
