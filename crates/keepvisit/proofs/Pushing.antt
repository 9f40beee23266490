-- The children of a chain stored one after another. Assumes nothing.
use mathlib.Core.Path.{◌≡◌, refl, sym, ap, ap₂, ◌∙◌}
use Prim.Native.Nat.{ℕ, zero, suc, ◌+◌, ◌-◌, ◌≤◌, ◌<◌}
use native.Mathlib.Omega.{arith}
use native.Mathlib.Numerals.{add-one}
use mathlib.Core.List.{List, [], ◌∷◌}
use lib.ListN.{length, set, length-set}
use lib.Seq.{sets}
use Rattle.grammar.specs.State.{entry_at}
use Rattle.keepvisit.specs.Visit.{linked, children_of}

pub length-linked : (entries : List ℕ) (count e : ℕ) → length (linked entries count e) ≡ count
unfolding linked
length-linked entries zero e = refl
length-linked entries (suc more) e = ap suc (length-linked entries more (entry_at entries e).next)

pub length-children_of : (entries es : List ℕ) → length (children_of entries es) ≡ length es
unfolding children_of
length-children_of entries [] = refl
length-children_of entries (e ∷ es) = ap suc (length-children_of entries es)

-- The loop: what is left to store still comes to the same.
pub record Pushing (entries : List ℕ) (from count first : ℕ) (s₀ : List ℕ) (left e at : ℕ) (s : List ℕ) : Type 0 where
  pub comes : sets s at (children_of entries (linked entries left e)) ≡ sets s₀ from (children_of entries (linked entries count first))
  pub same : length s ≡ length s₀
  pub ends : at + left ≡ from + count

abbrev pushed : (entries : List ℕ) (s : List ℕ) → (at left e : ℕ) → List ℕ
pushed entries s at left e = sets s at (children_of entries (linked entries left e))

pushed_on : (entries s : List ℕ) (at left e : ℕ) → 0 < left
    → pushed entries s at left e ≡ pushed entries (set s at (entry_at entries e).child) (at + 1) (left - 1) (entry_at entries e).next
unfolding linked children_of
pushed_on entries s at left e h =
    let l : left ≡ suc (left - 1) = omega arith in
    ap (λ m. pushed entries s at m e) l ∙ rw (add-one at)

module _ {entries : List ℕ} {from count first : ℕ} {s₀ : List ℕ} {left e at : ℕ} {s : List ℕ} where
  pub pushing_on : (child next : ℕ) → Pushing entries from count first s₀ left e at s → 0 < left → child ≡ (entry_at entries e).child → next ≡ (entry_at entries e).next
      → Pushing entries from count first s₀ (left - 1) next (at + 1) (set s at child)
  pushing_on child next w h c n =
      record {
        comes =
            ap₂ (λ a b. pushed entries (set s at a) (at + 1) (left - 1) b) c n
            ∙ sym (pushed_on entries s at left e h)
            ∙ w.comes;
        same = length-set s at child ∙ w.same;
        ends = omega arith;
      }

  pub pushing_done : Pushing entries from count first s₀ left e at s → left ≤ 0 → s ≡ sets s₀ from (children_of entries (linked entries count first))
  unfolding linked children_of
  pushing_done w h =
      let none : left ≡ 0 = omega arith in
      sym (ap (λ m. pushed entries s at m e) none) ∙ w.comes
