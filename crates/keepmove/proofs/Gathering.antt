-- The loops that gather the moved records' numbers in the scratch and lay them over a store. Assumes nothing.
use mathlib.Core.Path.{◌≡◌, refl, sym, ap, ap₂, ◌∙◌}
use Prim.Native.Nat.{ℕ, zero, suc, ◌+◌, ◌-◌, ◌*◌, ◌≤◌, ◌<◌}
use native.Mathlib.Omega.{arith}
use native.Mathlib.Numerals.{add-one}
use mathlib.Core.Bool.{Bool, true, false, cond}
use mathlib.Core.List.{List, ◌++◌, append-nil}
use lib.ListN.{length, get_or, set, take, drop, length-set, drop_of_length-le}
use lib.Seq.{sets, sets-eq, drop-cons, get_or-take}
use lib.Dec.{ltb}
use borrow.Author.Tests.{ltb-true, ltb-false, lt-ltb, le-ltb}
use Rattle.refusals.specs.Limits.{nothing}
use Rattle.grammar.specs.State.{entry_at}
use Rattle.keepvisit.specs.Visit.{linked, children_of}
use Rattle.keepmove.specs.Laid.{by_rank, new_at, kids_of, links_of, column_of, stepped}

-- New numbers.

by_rank-some : (kept rank : ℕ) → (rank ≡ 0 → ⊥) → rank - 1 ≡ by_rank kept rank
by_rank-some kept zero h = absurd (h refl)
by_rank-some kept (suc r) h = omega arith

pub new_beyond : (s : List ℕ) (bound kept n : ℕ) → bound ≤ n → kept ≡ new_at s bound kept n
unfolding new_at
new_beyond s bound kept n h = rw (le-ltb n bound h)

pub new_none : (s : List ℕ) (bound kept n : ℕ) → n < bound → get_or s (bound + n) 0 ≡ 0 → kept ≡ new_at s bound kept n
unfolding new_at
new_none s bound kept n h z = rw (lt-ltb n bound h, z)

pub new_some : (s : List ℕ) (bound kept n : ℕ) → n < bound → (get_or s (bound + n) 0 ≡ 0 → ⊥) → get_or s (bound + n) 0 - 1 ≡ new_at s bound kept n
unfolding new_at
new_some s bound kept n h z = by_rank-some kept (get_or s (bound + n) 0) z ∙ sym (ap (λ t. cond t (by_rank kept (get_or s (bound + n) 0)) kept) (lt-ltb n bound h))

pub new_same : (s s₀ : List ℕ) (bound kept n : ℕ) → take (bound * 2) s ≡ take (bound * 2) s₀ → new_at s bound kept n ≡ new_at s₀ bound kept n
unfolding new_at
new_same s s₀ bound kept n h = go (ltb n bound) refl
  where
    go : (t : Bool) → ltb n bound ≡ t → new_at s bound kept n ≡ new_at s₀ bound kept n
    go true p =
        let l : bound + n < bound * 2 = omega (arith, ltb-true n bound p) in
        ap (λ x. cond (ltb n bound) (by_rank kept x) kept)
        (sym (get_or-take (bound * 2) s (bound + n) 0 l) ∙ ap (λ x. get_or x (bound + n) 0) h ∙ get_or-take (bound * 2) s₀ (bound + n) 0 l)
    go false p = sym (new_beyond s bound kept n (ltb-false n bound p)) ∙ new_beyond s₀ bound kept n (ltb-false n bound p)

-- The children of one chain.
pub record Kids (entries visited : List ℕ) (bound kept from count first : ℕ) (out₀ : List ℕ) (left e at : ℕ) (out : List ℕ) : Type 0 where
  pub comes : sets out at (kids_of entries visited bound kept (children_of entries (linked entries left e)))
      ≡ sets out₀ from (kids_of entries visited bound kept (children_of entries (linked entries count first)))
  pub same : length out ≡ length out₀
  pub ends : at + left ≡ from + count

abbrev kids : (entries visited : List ℕ) (bound kept : ℕ) (out : List ℕ) → (at left e : ℕ) → List ℕ
kids entries visited bound kept out at left e = sets out at (kids_of entries visited bound kept (children_of entries (linked entries left e)))

kids_on : (entries visited : List ℕ) (bound kept : ℕ) (out : List ℕ) (at left e : ℕ) → 0 < left
    → kids entries visited bound kept out at left e
    ≡ kids entries visited bound kept (set out at (new_at visited bound kept (entry_at entries e).child)) (at + 1) (left - 1) (entry_at entries e).next
unfolding linked children_of kids_of
kids_on entries visited bound kept out at left e h =
    let l : left ≡ suc (left - 1) = omega arith in
    ap (λ m. kids entries visited bound kept out at m e) l ∙ rw (add-one at)

module _ {entries visited : List ℕ} {bound kept from count first : ℕ} {out₀ : List ℕ} {left e at : ℕ} {out : List ℕ} where
  pub kids_more : (child new next : ℕ) → Kids entries visited bound kept from count first out₀ left e at out → 0 < left → child ≡ (entry_at entries e).child
      → new ≡ new_at visited bound kept child → next ≡ (entry_at entries e).next → Kids entries visited bound kept from count first out₀ (left - 1) next (at + 1) (set out at new)
  kids_more child new next w h c v n =
      let is : new ≡ new_at visited bound kept (entry_at entries e).child = v ∙ ap (new_at visited bound kept) c in
      let k = w.ends in
      record {
        comes =
            ap₂ (λ a b. kids entries visited bound kept (set out at a) (at + 1) (left - 1) b) is n
            ∙ sym (kids_on entries visited bound kept out at left e h)
            ∙ w.comes;
        same = length-set out at new ∙ w.same;
        ends = omega arith;
      }

  pub kids-done : Kids entries visited bound kept from count first out₀ left e at out → left ≤ 0
      → out ≡ sets out₀ from (kids_of entries visited bound kept (children_of entries (linked entries count first)))
  unfolding linked children_of kids_of
  kids-done w h =
      let none : left ≡ 0 = omega arith in
      sym (ap (λ m. kids entries visited bound kept out at m e) none) ∙ w.comes

-- The links of one chain.
pub record Links (from number₀ count : ℕ) (s₀ : List ℕ) (number left at : ℕ) (s : List ℕ) : Type 0 where
  pub comes : sets s at (links_of number left) ≡ sets s₀ from (links_of number₀ count)
  pub same : length s ≡ length s₀
  pub ends : at + left ≡ from + count
  pub numbered : number + left ≡ number₀ + count

links_on : (s : List ℕ) (number left at : ℕ) → 1 < left → sets s at (links_of number left) ≡ sets (set s at (number + 1)) (at + 1) (links_of (number + 1) (left - 1))
unfolding links_of
links_on s number left at h =
    let l : left ≡ suc (suc (left - 2)) = omega arith in
    let m : left - 1 ≡ suc (left - 2) = omega arith in
    rw (add-one at, m) (ap (λ x. sets s at (links_of number x)) l)

module _ {from number₀ count : ℕ} {s₀ : List ℕ} {number left at : ℕ} {s : List ℕ} where
  pub links_more : Links from number₀ count s₀ number left at s → 1 < left → Links from number₀ count s₀ (number + 1) (left - 1) (at + 1) (set s at (number + 1))
  links_more w h =
      let k = w.ends in
      let m = w.numbered in
      record {
        comes = sym (links_on s number left at h) ∙ w.comes;
        same = length-set s at (number + 1) ∙ w.same;
        ends = omega arith;
        numbered = omega arith;
      }

  pub links_none : Links from number₀ count s₀ number left at s → left ≡ 0 → s ≡ sets s₀ from (links_of number₀ count)
  unfolding links_of
  links_none w h = sym (ap (λ m. sets s at (links_of number m)) h) ∙ w.comes

  pub links-done : Links from number₀ count s₀ number left at s → left ≤ 1 → (left ≡ 0 → ⊥) → set s at nothing ≡ sets s₀ from (links_of number₀ count)
  unfolding links_of
  links-done w h o =
      let one : left ≡ 1 = omega arith in
      sym (ap (λ m. sets s at (links_of number m)) one) ∙ w.comes

-- One number of each node.

-- as many numbers as there is room for are all that stands there then
pub all_stored : (vs out : List ℕ) → length vs ≡ length out → sets out 0 vs ≡ vs
all_stored vs out e =
    sets-eq vs out 0 (omega arith) ∙ ap (λ t. vs ++ t) (drop_of_length-le out {i = 0 + length vs} (omega arith)) ∙ append-nil vs

pub record Column (nodes order : List ℕ) (column i : ℕ) (out : List ℕ) : Type 0 where
  pub comes : sets out i (column_of nodes column (drop i order)) ≡ column_of nodes column order
  pub same : length order ≡ length out

module _ {nodes order : List ℕ} {column i : ℕ} {out : List ℕ} where
  pub column-more : (v : ℕ) → Column nodes order column i out → i < length order → v ≡ get_or nodes (get_or order i 0 * 7 + column) 0 → Column nodes order column (i + 1) (set out i v)
  unfolding column_of
  column-more v w h p =
      record {
        comes =
            ap (λ x. sets (set out i x) (i + 1) (column_of nodes column (drop (i + 1) order))) p
            ∙ ap (λ k. sets (set out i (get_or nodes (get_or order i 0 * 7 + column) 0)) k (column_of nodes column (drop k order))) (add-one i)
            ∙ sym (ap (λ x. sets out i (column_of nodes column x)) (drop-cons order i 0 h))
            ∙ w.comes;
        same = w.same ∙ sym (length-set out i v);
      }

  pub column_done : Column nodes order column i out → length order ≤ i → out ≡ column_of nodes column order
  unfolding column_of
  column_done w h = sym (ap (λ x. sets out i (column_of nodes column x)) (drop_of_length-le order {i = i} h)) ∙ w.comes

-- Numbers laid over a store.
pub record Laying (numbers : List ℕ) (column width : ℕ) (store₀ : List ℕ) (i at : ℕ) (store : List ℕ) : Type 0 where
  pub comes : stepped store at width (drop i numbers) ≡ stepped store₀ column width numbers
  pub same : length store ≡ length store₀

module _ {numbers : List ℕ} {column width : ℕ} {store₀ : List ℕ} {i at : ℕ} {store : List ℕ} where
  pub laying_more : Laying numbers column width store₀ i at store → i < length numbers → Laying numbers column width store₀ (i + 1) (at + width) (set store at (get_or numbers i 0))
  unfolding stepped
  laying_more w h =
      record {
        comes =
            ap (λ x. stepped (set store at (get_or numbers i 0)) (at + width) width (drop x numbers)) (add-one i)
            ∙ sym (ap (λ x. stepped store at width x) (drop-cons numbers i 0 h))
            ∙ w.comes;
        same = length-set store at (get_or numbers i 0) ∙ w.same;
      }

  pub laying_done : Laying numbers column width store₀ i at store → length numbers ≤ i → store ≡ stepped store₀ column width numbers
  unfolding stepped
  laying_done w h = sym (ap (λ x. stepped store at width x) (drop_of_length-le numbers {i = i} h)) ∙ w.comes
