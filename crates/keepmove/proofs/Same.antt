-- A moved node is the node it was, and its children are the moved children: shared nodes stay shared. Assumes nothing.
use mathlib.Core.Path.{◌≡◌, refl, sym, ap, ap₂, subst, ◌∙◌}
use Prim.Native.Nat.{ℕ, zero, suc, ◌+◌, ◌-◌, ◌≤◌, ◌<◌}
use native.Mathlib.Omega.{arith}
use native.Mathlib.Nat.{zero-add}
use mathlib.Core.Bool.{Bool, true, false, cond, ◌||◌}
use mathlib.Core.List.{List, [], ◌∷◌, ◌++◌, append_assoc, map}
use lib.ListN.{length, get_or, length-append, length-replicate}
use lib.Seq.{get_or-append_seam}
use lib.Dec.{eqb}
use borrow.Author.Tests.{eqb-true}
use Rattle.refusals.specs.Limits.{nothing}
use Rattle.clearing.specs.Lent.{zeros, padded}
use Rattle.grammar.specs.State.{Node, Entry, blank, unlinked, node_at, entry_at, node_cells, entry_cells}
use Rattle.stores.specs.Written.{Keeps}
use Rattle.stores.proofs.Lookups.{node_kept, entry_kept}
use Rattle.keepvisit.specs.Visit.{Stores, stores, member, linked, children_of, children, chain_of, place_in}
use Rattle.keepmove.specs.Moved.{first_of, renewed, moved_nodes, relinked, moved_entries, run, nodes_after, entries_after}
use Rattle.keepmove.specs.Laid.{total}
use Rattle.keepvisit.proofs.Members.{never}
use Rattle.keepvisit.proofs.Pushing.{length-linked, length-children_of}

-- A lookup among records laid from the front on, zeros behind them.
laid-keeps : (m : ℕ) (cells : List ℕ) → Keeps (padded m cells) cells
unfolding padded
laid-keeps m cells = ap (λ k. cells ++ zeros k) (rest (length (cells ++ zeros (m - length cells))) (length-append cells (zeros (m - length cells)) ∙ ap (λ k. length cells + k) (length-replicate (m - length cells) 0)))
  where
    rest : (l : ℕ) → l ≡ length cells + (m - length cells) → m - length cells ≡ l - length cells
    rest l e = omega arith

node-laid : (m : ℕ) (ns : List Node) (v : ℕ) → node_at (padded m (node_cells ns)) v ≡ get_or ns v blank
node-laid m ns v = node_kept ns v (laid-keeps m (node_cells ns))

entry-laid : (m : ℕ) (es : List Entry) (e : ℕ) → entry_at (padded m (entry_cells es)) e ≡ get_or es e unlinked
entry-laid m es e = entry_kept es e (laid-keeps m (entry_cells es))

-- How many entries stand before a node's own.
unfoldable pub before : (nodes order : List ℕ) → ℕ → ℕ
before nodes [] n = 0
before nodes (x ∷ xs) n = cond (eqb n x) 0 ((node_at nodes x).count + before nodes xs n)

node_step : (nodes : List ℕ) (at n x : ℕ) (xs : List ℕ)
    → (member n xs ≡ true → get_or (moved_nodes nodes (at + (node_at nodes x).count) xs) (place_in xs n) blank
    ≡ renewed (node_at nodes n) (first_of (node_at nodes n).count (at + (node_at nodes x).count + before nodes xs n)))
    → (b : Bool) → eqb n x ≡ b → (b || member n xs) ≡ true
    → get_or (moved_nodes nodes at (x ∷ xs)) (cond b zero (suc (place_in xs n))) blank
    ≡ renewed (node_at nodes n) (first_of (node_at nodes n).count (at + cond b 0 ((node_at nodes x).count + before nodes xs n)))
unfolding moved_nodes
node_step nodes at n x xs ih true e h =
    let same : n ≡ x = eqb-true n x e in
    let z : at + 0 ≡ at = omega arith in
    ap₂ (λ a b. renewed (node_at nodes a) (first_of (node_at nodes a).count b)) (sym same) (sym z)
node_step nodes at n x xs ih false e h =
    let z : at + (node_at nodes x).count + before nodes xs n ≡ at + ((node_at nodes x).count + before nodes xs n) = omega arith in
    ih h ∙ ap (λ b. renewed (node_at nodes n) (first_of (node_at nodes n).count b)) z

moved-node : (nodes : List ℕ) (at : ℕ) (order : List ℕ) (n : ℕ) → member n order ≡ true
    → get_or (moved_nodes nodes at order) (place_in order n) blank ≡ renewed (node_at nodes n) (first_of (node_at nodes n).count (at + before nodes order n))
unfolding member place_in before
moved-node nodes at [] n h = never h
moved-node nodes at (x ∷ xs) n h = node_step nodes at n x xs (λ m. moved-node nodes (at + (node_at nodes x).count) xs n m) (eqb n x) refl h

-- A node's own entries among the moved ones.
record Amid (all : List Entry) (at : ℕ) (order cs : List ℕ) : Type 0 where
  front : List Entry
  back : List Entry
  is : all ≡ front ++ (relinked order at cs ++ back)

length-relinked : (order : List ℕ) (at : ℕ) (cs : List ℕ) → length (relinked order at cs) ≡ length cs
unfolding relinked
length-relinked order at [] = refl
length-relinked order at (c ∷ []) = refl
length-relinked order at (c ∷ d ∷ cs) = ap suc (length-relinked order (at + 1) (d ∷ cs))

pub length-children : (t : Stores) (n : ℕ) → length (children t n) ≡ (node_at t.nodes n).count
length-children t n = length-children_of t.entries (chain_of t n) ∙ length-linked t.entries (node_at t.nodes n).count (node_at t.nodes n).first

pub length-moved_entries : (t : Stores) (order : List ℕ) (at : ℕ) (ns : List ℕ) → length (moved_entries t order at ns) ≡ total t.nodes ns
unfolding moved_entries total
length-moved_entries t order at [] = refl
length-moved_entries t order at (n ∷ ns) =
    length-append (relinked order at (children t n)) (moved_entries t order (at + (node_at t.nodes n).count) ns)
    ∙ ap₂ (λ a b. a + b) (length-relinked order at (children t n) ∙ length-children t n) (length-moved_entries t order (at + (node_at t.nodes n).count) ns)

record Own (t : Stores) (order : List ℕ) (at : ℕ) (ns : List ℕ) (n : ℕ) : Type 0 where
  front : List Entry
  back : List Entry
  is : moved_entries t order at ns ≡ front ++ (relinked order (at + before t.nodes ns n) (children t n) ++ back)
  size : length front ≡ before t.nodes ns n

own_step : (t : Stores) (order : List ℕ) (at n x : ℕ) (xs : List ℕ) → (member n xs ≡ true → Own t order (at + (node_at t.nodes x).count) xs n) → (b : Bool) → eqb n x ≡ b
    → (b || member n xs) ≡ true → Own t order at (x ∷ xs) n
unfolding moved_entries before
own_step t order at n x xs ih true e h =
    let same : n ≡ x = eqb-true n x e in
    let z : at + 0 ≡ at = omega arith in
    let none : before t.nodes (x ∷ xs) n ≡ 0 = ap (λ b. cond b 0 ((node_at t.nodes x).count + before t.nodes xs n)) e in
    record {
      front = [];
      back = moved_entries t order (at + (node_at t.nodes x).count) xs;
      is = ap₂ (λ a b. relinked order a (children t b) ++ moved_entries t order (at + (node_at t.nodes x).count) xs) (sym (ap (λ k. at + k) none ∙ z)) (sym same);
      size = sym none;
    }
own_step t order at n x xs ih false e h =
    let w = ih h in
    let some : before t.nodes (x ∷ xs) n ≡ (node_at t.nodes x).count + before t.nodes xs n = ap (λ b. cond b 0 ((node_at t.nodes x).count + before t.nodes xs n)) e in
    let place : at + (node_at t.nodes x).count + before t.nodes xs n ≡ at + before t.nodes (x ∷ xs) n = omega arith in
    record {
      front = relinked order at (children t x) ++ w.front;
      back = w.back;
      is =
          ap (λ r. relinked order at (children t x) ++ r) (w.is ∙ ap (λ a. w.front ++ (relinked order a (children t n) ++ w.back)) place)
          ∙ sym (append_assoc (relinked order at (children t x)) w.front (relinked order (at + before t.nodes (x ∷ xs) n) (children t n) ++ w.back));
      size =
          length-append (relinked order at (children t x)) w.front
          ∙ ap₂ (λ a b. a + b) (length-relinked order at (children t x) ∙ length-children t x) w.size
          ∙ sym some;
    }

own : (t : Stores) (order : List ℕ) (at : ℕ) (ns : List ℕ) (n : ℕ) → member n ns ≡ true → Own t order at ns n
unfolding member
own t order at [] n h = never h
own t order at (x ∷ xs) n h = own_step t order at n x xs (λ m. own t order (at + (node_at t.nodes x).count) xs n m) (eqb n x) refl h

-- A walk along such entries: they stand one behind another.
module _ (es order : List ℕ) (all : List Entry) (look : (i : ℕ) → entry_at es i ≡ get_or all i unlinked) where
  head_at : (front rest : List Entry) (e : Entry) (at : ℕ) → all ≡ front ++ (e ∷ rest) → length front ≡ at → entry_at es at ≡ e
  head_at front rest e at is l = look at ∙ ap₂ (λ x y. get_or x y unlinked) is (sym l) ∙ get_or-append_seam front e rest unlinked

  walk-run : (front : List Entry) (at : ℕ) (cs : List ℕ) (back : List Entry) → all ≡ front ++ (relinked order at cs ++ back) → length front ≡ at → linked es (length cs) at ≡ run at (length cs)
  unfolding relinked linked run
  walk-run front at [] back is l = refl
  walk-run front at (c ∷ []) back is l = refl
  walk-run front at (c ∷ d ∷ cs) back is l =
      let e : Entry = record { child = place_in order c; next = at + 1 } in
      let rest = relinked order (at + 1) (d ∷ cs) ++ back in
      ap (λ k. at ∷ linked es (suc (length cs)) k.next) (head_at front rest e at is l)
      ∙ ap (λ r. at ∷ r) (walk-run (front ++ e ∷ []) (at + 1) (d ∷ cs) back (is ∙ sym (append_assoc front (e ∷ []) rest)) (length-append front (e ∷ []) ∙ ap (λ k. k + 1) l))

  run-kids : (front : List Entry) (at : ℕ) (cs : List ℕ) (back : List Entry) → all ≡ front ++ (relinked order at cs ++ back) → length front ≡ at → children_of es (run at (length cs)) ≡ map (place_in order) cs
  unfolding relinked children_of run
  run-kids front at [] back is l = refl
  run-kids front at (c ∷ []) back is l =
      let e : Entry = record { child = place_in order c; next = nothing } in
      ap (λ k. k.child ∷ []) (head_at front back e at is l)
  run-kids front at (c ∷ d ∷ cs) back is l =
      let e : Entry = record { child = place_in order c; next = at + 1 } in
      let rest = relinked order (at + 1) (d ∷ cs) ++ back in
      ap₂ (λ k r. k.child ∷ r) (head_at front rest e at is l)
      (run-kids (front ++ e ∷ []) (at + 1) (d ∷ cs) back (is ∙ sym (append_assoc front (e ∷ []) rest)) (length-append front (e ∷ []) ∙ ap (λ k. k + 1) l))

-- The theorem.
module _ (t : Stores) (order : List ℕ) (n : ℕ) (h : member n order ≡ true) where
  -- every number of a kept node is the same, but its first entry
  pub same_node : node_at (nodes_after t.nodes order) (place_in order n)
      ≡ renewed (node_at t.nodes n) (first_of (node_at t.nodes n).count (before t.nodes order n))
  same_node =
      node-laid (length t.nodes) (moved_nodes t.nodes 0 order) (place_in order n)
      ∙ moved-node t.nodes 0 order n h
      ∙ ap (λ b. renewed (node_at t.nodes n) (first_of (node_at t.nodes n).count b)) (zero-add (before t.nodes order n))

  its_entries : Own t order 0 order n
  its_entries = own t order 0 order n h

  own_is : moved_entries t order 0 order ≡ its_entries.front ++ (relinked order (before t.nodes order n) (children t n) ++ its_entries.back)
  own_is =
      its_entries.is
      ∙ ap (λ a. its_entries.front ++ (relinked order a (children t n) ++ its_entries.back)) (zero-add (before t.nodes order n))

  by_count : (count : ℕ) → length (children t n) ≡ count
      → linked (entries_after t order) count (first_of count (before t.nodes order n)) ≡ run (before t.nodes order n) count
  unfolding linked run
  by_count zero e = refl
  by_count (suc more) e =
      subst (λ k. linked (entries_after t order) k (before t.nodes order n) ≡ run (before t.nodes order n) k) e
      (walk-run (entries_after t order) order (moved_entries t order 0 order) (λ i. entry-laid (length t.entries) (moved_entries t order 0 order) i)
      its_entries.front (before t.nodes order n) (children t n) its_entries.back own_is its_entries.size)

  -- its entries stand one behind another
  pub same_chain : (a b : ℕ) → chain_of (stores (nodes_after t.nodes order) (entries_after t order) a b) (place_in order n) ≡ run (before t.nodes order n) (node_at t.nodes n).count
  same_chain a b =
      ap (λ r. linked (entries_after t order) r.count r.first) same_node ∙ by_count (node_at t.nodes n).count (length-children t n)

  -- and its children are the moved children
  pub same_children : (a b : ℕ) → children (stores (nodes_after t.nodes order) (entries_after t order) a b) (place_in order n) ≡ map (place_in order) (children t n)
  same_children a b =
      ap (children_of (entries_after t order)) (same_chain a b)
      ∙ ap (λ k. children_of (entries_after t order) (run (before t.nodes order n) k)) (sym (length-children t n))
      ∙ run-kids (entries_after t order) order (moved_entries t order 0 order) (λ i. entry-laid (length t.entries) (moved_entries t order 0 order) i)
      its_entries.front (before t.nodes order n) (children t n) its_entries.back own_is its_entries.size

-- The entries of a kept node are among those kept.
pub run-below : (at count e : ℕ) → member e (run at count) ≡ true → e < at + count
unfolding member run
run-below at zero e h = never h
run-below at (suc more) e h = go (eqb e at) refl h (λ m. run-below (at + 1) more e m)
  where
    go : (b : Bool) → eqb e at ≡ b → (b || member e (run (at + 1) more)) ≡ true → (member e (run (at + 1) more) ≡ true → e < at + 1 + more) → e < at + suc more
    go true p h f = omega (arith, eqb-true e at p)
    go false p h f = omega (arith, f h)

pub before-most : (nodes order : List ℕ) (n : ℕ) → member n order ≡ true → before nodes order n + (node_at nodes n).count ≤ total nodes order
unfolding member before total
before-most nodes [] n h = never h
before-most nodes (x ∷ xs) n h = go (eqb n x) refl h (λ m. before-most nodes xs n m)
  where
    go : (b : Bool) → eqb n x ≡ b → (b || member n xs) ≡ true → (member n xs ≡ true → before nodes xs n + (node_at nodes n).count ≤ total nodes xs)
        → cond b 0 ((node_at nodes x).count + before nodes xs n) + (node_at nodes n).count ≤ (node_at nodes x).count + total nodes xs
    go true p h f = omega (arith, ap (λ k. (node_at nodes k).count) (eqb-true n x p))
    go false p h f = omega (arith, f h)

pub chain-inside : (t : Stores) (order : List ℕ) (n a b e : ℕ) → member n order ≡ true
    → member e (chain_of (stores (nodes_after t.nodes order) (entries_after t order) a b) (place_in order n)) ≡ true → e < total t.nodes order
chain-inside t order n a b e h m =
    omega (
      arith,
      before-most t.nodes order n h,
      run-below (before t.nodes order n) (node_at t.nodes n).count e (sym (ap (member e) (same_chain t order n h a b)) ∙ m),
    )

-- Kept nodes have kept numbers, and different ones different numbers.
pub place-below : (order : List ℕ) (n : ℕ) → member n order ≡ true → place_in order n < length order
unfolding member place_in
place-below [] n h = never h
place-below (x ∷ xs) n h = go (eqb n x) h (λ m. place-below xs n m)
  where
    go : (b : Bool) → (b || member n xs) ≡ true → (member n xs ≡ true → place_in xs n < length xs) → cond b zero (suc (place_in xs n)) < suc (length xs)
    go true h f = omega arith
    go false h f = omega (arith, f h)

pub place_at : (order : List ℕ) (n : ℕ) → member n order ≡ true → get_or order (place_in order n) 0 ≡ n
unfolding member place_in
place_at [] n h = never h
place_at (x ∷ xs) n h = go (eqb n x) refl h (λ m. place_at xs n m)
  where
    go : (b : Bool) → eqb n x ≡ b → (b || member n xs) ≡ true → (member n xs ≡ true → get_or xs (place_in xs n) 0 ≡ n) → get_or (x ∷ xs) (cond b zero (suc (place_in xs n))) 0 ≡ n
    go true p h f = sym (eqb-true n x p)
    go false p h f = f h

pub shared : (order : List ℕ) (n m : ℕ) → member n order ≡ true → member m order ≡ true → place_in order n ≡ place_in order m → n ≡ m
shared order n m h k e = sym (place_at order n h) ∙ ap (λ i. get_or order i 0) e ∙ place_at order m k
