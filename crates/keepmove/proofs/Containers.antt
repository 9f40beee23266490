-- The loops over the kept nodes. Assumes nothing.
use mathlib.Core.Path.{◌≡◌, refl, sym, ap, ap₂, ◌∙◌}
use Prim.Native.Nat.{ℕ, zero, suc, ◌+◌, ◌*◌, ◌≤◌, ◌<◌}
use native.Mathlib.Omega.{arith}
use native.Mathlib.Numerals.{add-one}
use mathlib.Core.List.{List, [], ◌∷◌, ◌++◌}
use lib.ListN.{length, get_or, set, take, drop, length-set, drop_of_length-le}
use lib.Seq.{sets, length-sets, drop-cons}
use Rattle.grammar.specs.State.{node_at}
use Rattle.keepvisit.specs.Visit.{linked, children_of}
use Rattle.keepmove.specs.Moved.{first_of}
use Rattle.keepmove.specs.Laid.{kids_of, all_kids, links_of, all_links, total, firsts_of}
use Rattle.keepvisit.proofs.Pushing.{length-linked, length-children_of}
use Rattle.keepmove.proofs.Gathering.{new_same}

pub sets-append : (s : List ℕ) (i : ℕ) (xs ys : List ℕ) → sets s i (xs ++ ys) ≡ sets (sets s i xs) (i + length xs) ys
sets-append s i [] ys = let e : i + 0 ≡ i = omega arith in rw e refl
sets-append s i (x ∷ xs) ys =
    let e : i + suc (length xs) ≡ suc i + length xs = omega arith in
    sets-append (set s i x) (suc i) xs ys ∙ ap (λ k. sets (sets (set s i x) (suc i) xs) k ys) (sym e)

pub length-kids_of : (entries s : List ℕ) (bound kept : ℕ) (cs : List ℕ) → length (kids_of entries s bound kept cs) ≡ length cs
unfolding kids_of
length-kids_of entries s bound kept [] = refl
length-kids_of entries s bound kept (c ∷ cs) = ap suc (length-kids_of entries s bound kept cs)

pub kids_of_same : (entries s s₀ : List ℕ) (bound kept : ℕ) (cs : List ℕ) → take (bound * 2) s ≡ take (bound * 2) s₀
    → kids_of entries s bound kept cs ≡ kids_of entries s₀ bound kept cs
unfolding kids_of
kids_of_same entries s s₀ bound kept [] h = refl
kids_of_same entries s s₀ bound kept (c ∷ cs) h = ap₂ (λ a b. a ∷ b) (new_same s s₀ bound kept c h) (kids_of_same entries s s₀ bound kept cs h)

pub length-links_of : (at count : ℕ) → length (links_of at count) ≡ count
unfolding links_of
length-links_of at zero = refl
length-links_of at (suc zero) = refl
length-links_of at (suc (suc m)) = ap suc (length-links_of (at + 1) (suc m))

total_on : (nodes : List ℕ) (n : ℕ) (rest all : List ℕ) → all ≡ n ∷ rest → total nodes all ≡ (node_at nodes n).count + total nodes rest
unfolding total
total_on nodes n rest all e = ap (total nodes) e

pub all_kids_same : (nodes entries s s₀ : List ℕ) (bound kept : ℕ) (ns : List ℕ) → take (bound * 2) s ≡ take (bound * 2) s₀ → all_kids nodes entries s bound kept ns ≡ all_kids nodes entries s₀ bound kept ns
unfolding all_kids
all_kids_same nodes entries s s₀ bound kept [] h = refl
all_kids_same nodes entries s s₀ bound kept (n ∷ ns) h = ap₂ (λ a b. a ++ b) (kids_of_same entries s s₀ bound kept _ h) (all_kids_same nodes entries s s₀ bound kept ns h)

-- What such loops keep: how many entries are left of those of the order.
module _ (nodes order : List ℕ) (i done : ℕ) (left : done + total nodes (drop i order) ≡ total nodes order) (h : i < length order) where
  its_node : drop i order ≡ get_or order i 0 ∷ drop (i + 1) order
  its_node = drop-cons order i 0 h ∙ ap (λ k. get_or order i 0 ∷ drop k order) (sym (add-one i))

  its_count : done + (node_at nodes (get_or order i 0)).count + total nodes (drop (i + 1) order) ≡ total nodes order
  its_count = omega (arith, left, total_on nodes (get_or order i 0) (drop (i + 1) order) (drop i order) its_node)

-- First entries.
pub record Firsts (nodes order : List ℕ) (i at : ℕ) (out : List ℕ) : Type 0 where
  pub comes : sets out i (firsts_of nodes at (drop i order)) ≡ firsts_of nodes 0 order
  pub same : length order ≡ length out
  pub left : at + total nodes (drop i order) ≡ total nodes order

module _ {nodes order : List ℕ} {i at : ℕ} {out : List ℕ} (w : Firsts nodes order i at out) where
  pub firsts_room : {count : ℕ} → i < length order → count ≡ (node_at nodes (get_or order i 0)).count → at + count ≤ total nodes order
  firsts_room h c = omega (arith, its_count nodes order i at w.left h)

  pub firsts_more : {count v : ℕ} → i < length order → count ≡ (node_at nodes (get_or order i 0)).count → v ≡ first_of count at → Firsts nodes order (i + 1) (at + count) (set out i v)
  unfolding firsts_of
  firsts_more {count} {v} h c p =
      record {
        comes =
            ap₂ (λ x y. sets (set out i x) y (firsts_of nodes (at + count) (drop (i + 1) order))) (p ∙ ap (λ m. first_of m at) c) (add-one i)
            ∙ ap (λ m. sets (set out i (first_of (node_at nodes (get_or order i 0)).count at)) (suc i) (firsts_of nodes (at + m) (drop (i + 1) order))) c
            ∙ sym (ap (λ x. sets out i (firsts_of nodes at x)) (its_node nodes order i at w.left h))
            ∙ w.comes;
        same = w.same ∙ sym (length-set out i v);
        left = omega (arith, its_count nodes order i at w.left h);
      }

  pub firsts_done : length order ≤ i → out ≡ firsts_of nodes 0 order
  unfolding firsts_of
  firsts_done h = sym (ap (λ x. sets out i (firsts_of nodes at x)) (drop_of_length-le order {i = i} h)) ∙ w.comes

-- All children.
pub record AllKids (nodes entries visited order : List ℕ) (bound kept : ℕ) (out₀ : List ℕ) (i at : ℕ) (out : List ℕ) : Type 0 where
  pub comes : sets out at (all_kids nodes entries visited bound kept (drop i order)) ≡ sets out₀ 0 (all_kids nodes entries visited bound kept order)
  pub same : length out ≡ length out₀
  pub left : at + total nodes (drop i order) ≡ total nodes order

module _ {nodes entries visited order : List ℕ} {bound kept : ℕ} {out₀ : List ℕ} {i at : ℕ} {out : List ℕ} (w : AllKids nodes entries visited order bound kept out₀ i at out) where
  pub all_kids-room : {count : ℕ} → i < length order → total nodes order ≤ length out₀ → count ≡ (node_at nodes (get_or order i 0)).count → at + count ≤ length out
  all_kids-room h b c = omega (arith, its_count nodes order i at w.left h, w.same)

  pub all_kids_more : {count first : ℕ} {out' : List ℕ} → i < length order → count ≡ (node_at nodes (get_or order i 0)).count → first ≡ (node_at nodes (get_or order i 0)).first
      → out' ≡ sets out at (kids_of entries visited bound kept (children_of entries (linked entries count first)))
      → AllKids nodes entries visited order bound kept out₀ (i + 1) (at + count) out'
  unfolding all_kids
  all_kids_more {count} {first} {out'} h c f p =
      let n = get_or order i 0 in
      let own = kids_of entries visited bound kept (children_of entries (linked entries (node_at nodes n).count (node_at nodes n).first)) in
      let size : length own ≡ count =
      length-kids_of entries visited bound kept _ ∙ length-children_of entries _ ∙ length-linked entries (node_at nodes n).count (node_at nodes n).first ∙ sym c in
      let is : out' ≡ sets out at own = p ∙ ap₂ (λ x y. sets out at (kids_of entries visited bound kept (children_of entries (linked entries x y)))) c f in
      record {
        comes =
            ap₂ (λ x y. sets x (at + y) (all_kids nodes entries visited bound kept (drop (i + 1) order))) is (sym size)
            ∙ sym (sets-append out at own (all_kids nodes entries visited bound kept (drop (i + 1) order)))
            ∙ sym (ap (λ x. sets out at (all_kids nodes entries visited bound kept x)) (its_node nodes order i at w.left h))
            ∙ w.comes;
        same = ap length is ∙ length-sets out at own ∙ w.same;
        left = omega (arith, its_count nodes order i at w.left h);
      }

  pub all_kids-done : length order ≤ i → out ≡ sets out₀ 0 (all_kids nodes entries visited bound kept order)
  unfolding all_kids
  all_kids-done h = sym (ap (λ x. sets out at (all_kids nodes entries visited bound kept x)) (drop_of_length-le order {i = i} h)) ∙ w.comes

-- All links.
pub record AllLinks (nodes order : List ℕ) (out₀ : List ℕ) (i number : ℕ) (out : List ℕ) : Type 0 where
  pub comes : sets out number (all_links nodes number (drop i order)) ≡ sets out₀ 0 (all_links nodes 0 order)
  pub same : length out ≡ length out₀
  pub left : number + total nodes (drop i order) ≡ total nodes order

module _ {nodes order : List ℕ} {out₀ : List ℕ} {i number : ℕ} {out : List ℕ} (w : AllLinks nodes order out₀ i number out) where
  pub all_links-room : {count : ℕ} → i < length order → total nodes order ≤ length out₀ → count ≡ (node_at nodes (get_or order i 0)).count → (number + count ≤ length out) × (number + count ≤ total nodes order)
  all_links-room h b c = omega (arith, its_count nodes order i number w.left h, w.same)

  pub all_links_more : {count : ℕ} {out' : List ℕ} → i < length order → count ≡ (node_at nodes (get_or order i 0)).count → out' ≡ sets out number (links_of number count)
      → AllLinks nodes order out₀ (i + 1) (number + count) out'
  unfolding all_links
  all_links_more {count} {out'} h c p =
      let own = links_of number (node_at nodes (get_or order i 0)).count in
      let size : number + length own ≡ number + count = omega (arith, length-links_of number (node_at nodes (get_or order i 0)).count) in
      let is : out' ≡ sets out number own = p ∙ ap (λ x. sets out number (links_of number x)) c in
      record {
        comes =
            ap₂ (λ x y. sets x y (all_links nodes (number + count) (drop (i + 1) order))) is (sym size)
            ∙ ap (λ m. sets (sets out number own) (number + length own) (all_links nodes (number + m) (drop (i + 1) order))) c
            ∙ sym (sets-append out number own (all_links nodes (number + (node_at nodes (get_or order i 0)).count) (drop (i + 1) order)))
            ∙ sym (ap (λ x. sets out number (all_links nodes number x)) (its_node nodes order i number w.left h))
            ∙ w.comes;
        same = ap length is ∙ length-sets out number own ∙ w.same;
        left = omega (arith, its_count nodes order i number w.left h);
      }

  pub all_links-done : length order ≤ i → out ≡ sets out₀ 0 (all_links nodes 0 order)
  unfolding all_links
  all_links-done h = sym (ap (λ x. sets out number (all_links nodes number x)) (drop_of_length-le order {i = i} h)) ∙ w.comes
