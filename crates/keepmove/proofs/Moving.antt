-- The move's parts put together. Assumes nothing.
use mathlib.Core.Path.{◌≡◌, sym, ap, ap₂, ◌∙◌}
use Prim.Native.Nat.{ℕ, ◌+◌, ◌*◌, ◌≤◌, ◌<◌}
use native.Mathlib.Omega.{arith}
use mathlib.Core.List.{List, ◌++◌}
use lib.ListN.{length, take, drop, length-append, length-drop}
use lib.Seq.{sets, take-take, length-take-le}
use Rattle.refusals.specs.Limits.{most_records}
use Rattle.clearing.specs.Lent.{zeros}
use Rattle.grammar.specs.State.{node_width, entry_width}
use Rattle.keepmove.specs.Moved.{nodes_after}
use Rattle.keepmove.specs.Laid.{all_kids, all_links, total, firsts_of, column_of, stepped, zeroed_from, column_moved, three_moved, firsts_moved, entries_moved}
use Rattle.keepmove.specs.Parts.{Movable, AllMoved}
use Rattle.keepmove.proofs.Gathering.{all_stored}
use Rattle.keepmove.proofs.Containers.{all_kids_same}
use Rattle.keepmove.proofs.Laying.{column_other, length-all_kids, length-all_links, nodes-laid, entries-laid}

-- what stands in front of a place stands in front of a nearer one
pub nearer : (s s' : List ℕ) (k to : ℕ) → take to s' ≡ take to s → k ≤ to → take k s' ≡ take k s
nearer s s' k to f h = sym (take-take k to s' h) ∙ ap (take k) f ∙ take-take k to s h

-- three columns, one after another
pub three-moved : (nodes order : List ℕ) (c : ℕ) {nodes₁ nodes₂ nodes₃ : List ℕ} → nodes₁ ≡ column_moved nodes order c → nodes₂ ≡ column_moved nodes₁ order (c + 1) → nodes₃ ≡ column_moved nodes₂ order (c + 2) → c + 2 < 7
    → nodes₃ ≡ three_moved nodes order c
three-moved nodes order c {nodes₁} {nodes₂} {nodes₃} u v w l =
    let second : column_of nodes₁ (c + 1) order ≡ column_of nodes (c + 1) order =
    ap (λ x. column_of x (c + 1) order) u ∙ column_other nodes c (c + 1) (column_of nodes c order) order (omega arith) (omega arith) (λ p. omega arith) in
    let third : column_of nodes₂ (c + 2) order ≡ column_of nodes (c + 2) order =
    ap (λ x. column_of x (c + 2) order) v ∙ column_other nodes₁ (c + 1) (c + 2) (column_of nodes₁ (c + 1) order) order (omega arith) (omega arith) (λ p. omega arith)
    ∙ ap (λ x. column_of x (c + 2) order) u ∙ column_other nodes c (c + 2) (column_of nodes c order) order (omega arith) (omega arith) (λ p. omega arith) in
    w ∙ ap₂ (λ x y. stepped x (c + 2) 7 y) (v ∙ ap₂ (λ x y. stepped x (c + 1) 7 y) u second) third

-- three columns from one on, laid over a store
abbrev three_of : (store : List ℕ) → (c : ℕ) → (xs ys zs : List ℕ) → List ℕ
three_of store c xs ys zs = stepped (stepped (stepped store c 7 xs) (c + 1) 7 ys) (c + 2) 7 zs

pub nodes-moved : (nodes order : List ℕ) {nodes₁ nodes₂ nodes₃ nodes₄ : List ℕ} → nodes₁ ≡ firsts_moved nodes order → nodes₂ ≡ three_moved nodes₁ order 0 → nodes₃ ≡ three_moved nodes₂ order 4
    → nodes₄ ≡ zeroed_from nodes₃ (length order * 7) → length order * 7 ≤ length nodes → nodes₄ ≡ nodes_after nodes order
nodes-moved nodes order {nodes₁} {nodes₂} {nodes₃} {nodes₄} f a b z m =
    let one : nodes₂ ≡ three_of nodes₁ 0 (column_of nodes 0 order) (column_of nodes 1 order) (column_of nodes 2 order) =
    a
    ∙ ap (λ x. three_of nodes₁ 0 x (column_of nodes₁ 1 order) (column_of nodes₁ 2 order)) (of_first 0 (omega arith) (λ p. omega arith))
    ∙ ap₂ (λ x y. three_of nodes₁ 0 (column_of nodes 0 order) x y) (of_first 1 (omega arith) (λ p. omega arith)) (of_first 2 (omega arith) (λ p. omega arith)) in
    let two : nodes₃ ≡ three_of nodes₂ 4 (column_of nodes 4 order) (column_of nodes 5 order) (column_of nodes 6 order) =
    b
    ∙ ap (λ x. three_of nodes₂ 4 x (column_of nodes₂ 5 order) (column_of nodes₂ 6 order)) (of_two one 4 (omega arith) (omega arith))
    ∙ ap₂ (λ x y. three_of nodes₂ 4 (column_of nodes 4 order) x y) (of_two one 5 (omega arith) (omega arith)) (of_two one 6 (omega arith) (omega arith)) in
    z
    ∙ ap (λ x. zeroed_from x (length order * 7)) two
    ∙ ap (λ x. zeroed_from (three_of x 4 (column_of nodes 4 order) (column_of nodes 5 order) (column_of nodes 6 order)) (length order * 7))
    (one ∙ ap (λ x. three_of x 0 (column_of nodes 0 order) (column_of nodes 1 order) (column_of nodes 2 order)) f)
    ∙ nodes-laid nodes order m
  where
    of_first : (j : ℕ) → j < 7 → (3 ≡ j → ⊥) → column_of nodes₁ j order ≡ column_of nodes j order
    of_first j l o = ap (λ x. column_of x j order) f ∙ column_other nodes 3 j (firsts_of nodes 0 order) order (omega arith) l o

    of_two : nodes₂ ≡ three_of nodes₁ 0 (column_of nodes 0 order) (column_of nodes 1 order) (column_of nodes 2 order) → (j : ℕ) → 3 < j → j < 7 → column_of nodes₂ j order ≡ column_of nodes j order
    of_two e j m l =
        ap (λ x. column_of x j order) e
        ∙ column_other (stepped (stepped nodes₁ 0 7 (column_of nodes 0 order)) 1 7 (column_of nodes 1 order)) 2 j (column_of nodes 2 order) order (omega arith) l (λ p. omega arith)
        ∙ column_other (stepped nodes₁ 0 7 (column_of nodes 0 order)) 1 j (column_of nodes 1 order) order (omega arith) l (λ p. omega arith)
        ∙ column_other nodes₁ 0 j (column_of nodes 0 order) order (omega arith) l (λ p. omega arith)
        ∙ ap (λ x. column_of x j order) f ∙ column_other nodes 3 j (firsts_of nodes 0 order) order (omega arith) l (λ p. omega arith)

-- Entries.

-- one number of each entry fills the space, first the children, then the links
pub entries-done : (nodes entries visited space : List ℕ) (bound kept : ℕ) {ks ls e₁ e₂ e₃ : List ℕ} → total nodes (take kept visited) ≡ length space
    → ks ≡ sets space 0 (all_kids nodes entries visited bound kept (take kept visited)) → length ks ≡ length space → e₁ ≡ stepped entries 0 2 ks
    → ls ≡ sets ks 0 (all_links nodes 0 (take kept visited)) → length ls ≡ length ks → e₂ ≡ stepped e₁ 1 2 ls → e₃ ≡ zeroed_from e₂ (length ls * 2) → e₃ ≡ entries_moved nodes entries visited bound kept
entries-done nodes entries visited space bound kept {ks} {ls} {e₁} {e₂} {e₃} e p m a q n b z =
    let children : ks ≡ all_kids nodes entries visited bound kept (take kept visited) =
    p ∙ all_stored _ space (length-all_kids nodes entries visited bound kept (take kept visited) ∙ e) in
    let links : ls ≡ all_links nodes 0 (take kept visited) = q ∙ all_stored _ ks (length-all_links nodes 0 (take kept visited) ∙ e ∙ sym m) in
    z ∙ ap₂ (λ x i. zeroed_from x (i * 2)) (b ∙ ap₂ (λ x y. stepped x 1 2 y) (a ∙ ap (stepped entries 0 2) children) links) (n ∙ m ∙ sym e)

-- All of it.

module _ {nodes entries s : List ℕ} {bound limit kept moved : ℕ} (visited back : List ℕ) (w : Movable nodes entries s bound limit kept moved) (f : visited ≡ take (bound * 2) s)
    (l : length visited ≡ bound * 2) (k : length back + bound * 2 ≡ length s) where
  -- the order is in front of what was visited
  order_there : take kept visited ≡ take kept s
  order_there = ap (take kept) f ∙ take-take kept (bound * 2) s (omega (arith, w.fewer))

  all_there : total nodes (take kept visited) ≡ moved
  all_there = ap (total nodes) order_there ∙ sym w.all

  space-entries : length (take moved back) ≡ moved
  space-entries = length-take-le moved back (omega (arith, w.fewer, w.room, w.within))

  pub entries-room : (bound * 2 ≤ length visited) × (kept ≤ length visited) × (total nodes (take kept visited) ≡ length (take moved back))
      × (length (take moved back) ≤ most_records) × (length (take moved back) * entry_width ≤ length entries)
  entries-room =
      let fits : kept ≤ length visited = omega (arith, w.fewer, l) in
      let most : length (take moved back) ≤ most_records = omega (arith, space-entries, w.within, w.most_entries) in
      let held : length (take moved back) * entry_width ≤ length entries = omega (arith, space-entries, w.within, w.held) in
      (omega (arith, l), fits, all_there ∙ sym space-entries, most, held)

  -- the space as the entries left it
  module _ (space : List ℕ) (p : length space ≡ length (take moved back)) where
    left-behind : length (space ++ drop moved back) ≡ length back
    left-behind = length-append space (drop moved back) ∙ omega (arith, p, space-entries, length-drop moved back, w.fewer, w.room, w.within, k)

    pub nodes-room : bound * node_width ≤ length nodes
        → (length (take kept visited) ≡ length (take kept (space ++ drop moved back))) × (total nodes (take kept visited) ≤ most_records) × (length (take kept visited) * node_width ≤ length nodes)
        × (length (take kept visited) ≤ most_records)
    nodes-room h =
        let fewer = w.fewer in
        let size : length (take kept visited) ≡ kept = length-take-le kept visited (omega (arith, fewer, l)) in
        let room : length (take kept (space ++ drop moved back)) ≡ kept = length-take-le kept (space ++ drop moved back) (omega (arith, fewer, left-behind, w.room, k)) in
        (size ∙ sym room, omega (arith, w.within, w.most_entries, all_there), omega (arith, size, fewer), omega (arith, size, fewer, w.most))

    pub all_moved : (slots after : List ℕ) {s₃ nodes' entries' slots' : List ℕ} → entries' ≡ entries_moved nodes entries visited bound kept → nodes' ≡ nodes_after nodes (take kept visited)
        → length after ≡ length (take kept (space ++ drop moved back)) → s₃ ≡ zeros (length (visited ++ (after ++ drop kept (space ++ drop moved back)))) → slots' ≡ zeros (length slots)
        → AllMoved nodes entries slots s bound limit kept nodes' entries' slots' s₃
    all_moved slots after {s₃} {nodes'} {entries'} {slots'} e n q z c =
        let behind : kept ≤ length (space ++ drop moved back) = omega (arith, w.fewer, left-behind, w.room, k) in
        let long : length (visited ++ (after ++ drop kept (space ++ drop moved back))) ≡ length s =
        length-append visited (after ++ drop kept (space ++ drop moved back))
        ∙ omega (
          arith,
          l,
          k,
          q,
          behind,
          left-behind,
          length-append after (drop kept (space ++ drop moved back)),
          length-drop kept (space ++ drop moved back),
          length-take-le kept (space ++ drop moved back) behind,
        ) in
        record {
          node_store = λ order g j. n ∙ ap (nodes_after nodes) (order_there ∙ ap (λ m. take m s) j ∙ g.ordered);
          entry_store = λ order g j.
              let is : take kept visited ≡ order = order_there ∙ ap (λ m. take m s) j ∙ g.ordered in
              let t : total nodes order ≡ moved = sym (ap (total nodes) is) ∙ all_there in
              e
              ∙ ap (λ x. zeroed_from (stepped (stepped entries 0 2 (all_kids nodes entries visited bound kept x)) 1 2 (all_links nodes 0 x)) (total nodes x * 2)) is
              ∙ ap (λ x. zeroed_from (stepped (stepped entries 0 2 x) 1 2 (all_links nodes 0 order)) (total nodes order * 2)) (all_kids_same nodes entries visited s bound kept order same)
              ∙ ap (λ x. zeroed_from (stepped (stepped entries 0 2 (all_kids nodes entries s bound x order)) 1 2 (all_links nodes 0 order)) (total nodes order * 2)) j
              ∙ entries-laid nodes entries s order bound limit g (omega (arith, t, w.within, w.held));
          slot_store = c;
          cleared = z ∙ ap zeros long;
        }
      where
        same : take (bound * 2) visited ≡ take (bound * 2) s
        same = ap (take (bound * 2)) f ∙ take-take (bound * 2) (bound * 2) s (omega arith)
