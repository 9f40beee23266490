-- Records moved one after another: in front those that are moved, behind them the store as it was. Assumes nothing.
use mathlib.Core.Path.{◌≡◌, refl, sym, ap, ap₂, subst, ◌∙◌}
use Prim.Native.Nat.{ℕ, zero, suc, ◌+◌, ◌-◌, ◌*◌, ◌≤◌, ◌<◌}
use native.Mathlib.Omega.{arith}
use native.Mathlib.Numerals.{add-one}
use mathlib.Core.Bool.{Bool, true, false}
use mathlib.Core.List.{List, [], ◌∷◌, ◌++◌}
use lib.ListN.{length, get_or, take, drop, length-append, length-drop, take-append-drop}
use lib.Seq.{sets, sets-eq, length-sets, take-suc, take_all, take_at, drop_at, drop-drop, get_or-drop, length-take-le}
use lib.Dec.{ltb}
use borrow.Author.Tests.{ltb-true, ltb-false}
use Rattle.grammar.specs.State.{Node, node_at, node_cells, node_width}
use Rattle.stores.specs.Written.{node_of, node_written}
use Rattle.stores.specs.declared.Node.{Node as Stored}
use Rattle.keepmove.specs.Moved.{first_of, renewed, moved_nodes, nodes_after}
use Rattle.keepmove.specs.Laid.{total, zeroed_from}
use Rattle.keepmove.specs.Down.{NoneRises, Rising, MovedDown}
use Rattle.keepmove.proofs.Laying.{length-moved_nodes, zeroed}
use Rattle.keepmove.proofs.Again.{total-snoc}

-- None rises.

pub none_yet : {s : List ℕ} → NoneRises 0 s
none_yet = record { each = λ i l. absurd (omega (arith, l)) }

pub none_more : {s : List ℕ} {i : ℕ} → NoneRises i s → i ≤ get_or s i 0 → NoneRises (i + 1) s
none_more {s} {i} w h = record { each = λ j l. go j l (ltb j i) refl }
  where
    go : (j : ℕ) → j < i + 1 → (b : Bool) → ltb j i ≡ b → j ≤ get_or s j 0
    go j l true e = w.each j (ltb-true j i e)
    go j l false e =
        let least : i ≤ j = ltb-false j i e in
        let same : i ≡ j = omega arith in
        subst (λ k. k ≤ get_or s k 0) same h

pub none_at_all : {s : List ℕ} {i kept : ℕ} → NoneRises i s → kept ≤ i → Rising kept s true
none_at_all w h = record { none = λ e. record { each = λ j l. w.each j (omega arith) } }

pub one_rises : {s : List ℕ} {kept : ℕ} → Rising kept s false
one_rises = record { none = λ e. absurd (let z : ◌≡◌ {A = ℕ} 0 1 = cc in omega arith) }

-- One record after another.

moved-snoc : (nodes : List ℕ) (at : ℕ) (ns : List ℕ) (n : ℕ)
    → node_cells (moved_nodes nodes at (ns ++ n ∷ [])) ≡ node_cells (moved_nodes nodes at ns) ++ node_cells (renewed (node_at nodes n) (first_of (node_at nodes n).count (at + total nodes ns)) ∷ [])
unfolding moved_nodes total
moved-snoc nodes at [] n =
    let z : at ≡ at + 0 = omega arith in
    ap (λ k. node_cells (renewed (node_at nodes n) (first_of (node_at nodes n).count k) ∷ [])) z
moved-snoc nodes at (x ∷ xs) n =
    let z : at + (node_at nodes x).count + total nodes xs ≡ at + ((node_at nodes x).count + total nodes xs) = omega arith in
    ap (λ t. node_cells (renewed (node_at nodes x) (first_of (node_at nodes x).count at) ∷ []) ++ t)
    (moved-snoc nodes (at + (node_at nodes x).count) xs n
    ∙ ap (λ k. node_cells (moved_nodes nodes (at + (node_at nodes x).count) xs) ++ node_cells (renewed (node_at nodes n) (first_of (node_at nodes n).count k) ∷ [])) z)

sum-within : (nodes s : List ℕ) (i kept : ℕ) → i < kept → kept ≤ length s → total nodes (take i s) + (node_at nodes (get_or s i 0)).count ≤ total nodes (take kept s)
unfolding total
sum-within nodes s i zero h l = absurd (omega arith)
sum-within nodes [] i (suc kept) h l = absurd (omega arith)
sum-within nodes (x ∷ s) zero (suc kept) h l = omega arith
sum-within nodes (x ∷ s) (suc i) (suc kept) h l = omega (arith, sum-within nodes s i kept (omega arith) (omega arith))

-- The first i are moved, and behind them the store is as it was.
pub record Down (nodes s : List ℕ) (kept i at : ℕ) (now : List ℕ) : Type 0 where
  pub front : take (i * node_width) now ≡ node_cells (moved_nodes nodes 0 (take i s))
  pub back : drop (i * node_width) now ≡ drop (i * node_width) nodes
  pub same : length now ≡ length nodes
  pub sum : at ≡ total nodes (take i s)
  pub within : i ≤ kept

pub down_start : {nodes s : List ℕ} {kept : ℕ} → Down nodes s kept 0 0 nodes
unfolding moved_nodes total
down_start = record { front = refl; back = refl; same = refl; sum = refl; within = omega arith }

node_of_lem : (a b c d e f g : ℕ) → Node
node_of_lem a b c d e f g = record { letter = a; place = b; size = c; first = d; count = e; end = f; input = g }

seven : {a b c d e f g a' b' c' d' e' f' g' : ℕ} → a ≡ a' → b ≡ b' → c ≡ c' → d ≡ d' → e ≡ e' → f ≡ f' → g ≡ g' → node_of_lem a b c d e f g ≡ node_of_lem a' b' c' d' e' f' g'
seven p q r s t u v i = node_of_lem (p i) (q i) (r i) (s i) (t i) (u i) (v i)

module _ {nodes s : List ℕ} {kept i at : ℕ} {now : List ℕ} (w : Down nodes s kept i at now) where
  untouched : (k : ℕ) → i * node_width ≤ k → get_or now k 0 ≡ get_or nodes k 0
  untouched k h =
      let z : i * node_width + (k - i * node_width) ≡ k = omega arith in
      sym (ap (λ x. get_or now x 0) z)
      ∙ sym (get_or-drop (i * node_width) now (k - i * node_width) 0)
      ∙ ap (λ x. get_or x (k - i * node_width) 0) w.back
      ∙ get_or-drop (i * node_width) nodes (k - i * node_width) 0
      ∙ ap (λ x. get_or nodes x 0) z

  as_it_was : (n : ℕ) → i ≤ n → node_at now n ≡ node_at nodes n
  unfolding node_of_lem
  as_it_was n h =
      seven (untouched (n * node_width) (omega arith)) (untouched (n * node_width + 1) (omega arith)) (untouched (n * node_width + 2) (omega arith)) (untouched (n * node_width + 3) (omega arith))
      (untouched (n * node_width + 4) (omega arith)) (untouched (n * node_width + 5) (omega arith)) (untouched (n * node_width + 6) (omega arith))

  -- a sum that is within the limit
  pub down-room : {count : ℕ} → kept ≤ length s → NoneRises kept s → i < kept → count ≡ (node_at now (get_or s i 0)).count → at + count ≤ total nodes (take kept s)
  down-room {count} l r h e =
      let own : (node_at now (get_or s i 0)).count ≡ (node_at nodes (get_or s i 0)).count = ap (λ x. x.count) (as_it_was (get_or s i 0) (r.each i h)) in
      omega (arith, w.sum, e, own, sum-within nodes s i kept h l)

  twice : (xs : List ℕ) → drop 7 (drop (i * node_width) xs) ≡ drop (i * node_width + 7) xs
  twice xs = drop-drop 7 (i * node_width) xs

  pub down_more : (read : Stored) {first : ℕ} {after : List ℕ} → kept ≤ length s → NoneRises kept s → kept * node_width ≤ length nodes → i < kept → node_of read ≡ node_at now (get_or s i 0)
      → first ≡ first_of read.count at
      → after ≡ node_written now i (record { letter = read.letter; place = read.place; size = read.size; first = first; count = read.count; end = read.end; input = read.input })
      → Down nodes s kept (i + 1) (at + read.count) after
  down_more read-node {first} {after} l r m h e f b =
      let n = get_or s i 0 in
      let count = read-node.count in
      let a : after ≡ node_written now i (renewed (node_at now n) (first_of count at)) = b ∙ ap₂ (λ x y. node_written now i (renewed x y)) e f in
      let read : node_at now n ≡ node_at nodes n = as_it_was n (r.each i h) in
      let counted : count ≡ (node_at nodes n).count = ap (λ x. x.count) e ∙ ap (λ x. x.count) read in
      let cells = node_cells (renewed (node_at nodes n) (first_of (node_at nodes n).count (0 + total nodes (take i s))) ∷ []) in
      let zero_sum : at ≡ 0 + total nodes (take i s) = omega (arith, w.sum) in
      let long = w.same in
      let is : after ≡ sets now (i * node_width) cells =
      a ∙ ap₂ (λ x y. sets now (i * node_width) (node_cells (renewed x y ∷ []))) read (ap₂ first_of counted zero_sum) in
      let laid : after ≡ (take (i * node_width) now ++ cells) ++ drop (i * node_width + 7) now =
      is ∙ sets-eq cells now (i * node_width) (omega arith) in
      let size : length (take (i * node_width) now ++ cells) ≡ (i + 1) * node_width =
      length-append (take (i * node_width) now) cells ∙ omega (arith, length-take-le (i * node_width) now (omega arith)) in
      let next : i * node_width + 7 ≡ (i + 1) * node_width = omega arith in
      let one_more : take (i + 1) s ≡ take i s ++ n ∷ [] = ap (λ k. take k s) (add-one i) ∙ take-suc s i 0 (omega arith) in
      record {
        front =
            ap (take ((i + 1) * node_width)) laid ∙ take_at (take (i * node_width) now ++ cells) (drop (i * node_width + 7) now) ((i + 1) * node_width) size
            ∙ ap (λ t. t ++ cells) w.front
            ∙ sym (moved-snoc nodes 0 (take i s) n) ∙ ap (λ t. node_cells (moved_nodes nodes 0 t)) (sym one_more);
        back =
            ap (drop ((i + 1) * node_width)) laid ∙ drop_at (take (i * node_width) now ++ cells) (drop (i * node_width + 7) now) ((i + 1) * node_width) size
            ∙ sym (twice now) ∙ ap (drop 7) w.back ∙ twice nodes ∙ ap (λ k. drop k nodes) next;
        same = ap length is ∙ length-sets now (i * node_width) cells ∙ w.same;
        sum = omega (arith, w.sum, counted, total-snoc nodes (take i s) n, ap (total nodes) one_more);
        within = omega arith;
      }

  pub down-done : kept ≤ i → MovedDown nodes s kept now
  down-done h =
      let all : i ≡ kept = omega (arith, w.within) in
      record {
        laid =
            sym (take-append-drop (i * node_width) now)
            ∙ ap₂ (λ x y. x ++ y) (w.front ∙ ap (λ k. node_cells (moved_nodes nodes 0 (take k s))) all) (w.back ∙ ap (λ k. drop (k * node_width) nodes) all);
      }

-- with zeros behind them they are the store after the move
pub down_zeroed : {nodes order nodes₁ nodes₂ : List ℕ} → MovedDown nodes order (length order) nodes₁ → nodes₂ ≡ zeroed_from nodes₁ (length order * node_width) → length order * node_width ≤ length nodes
    → nodes₂ ≡ nodes_after nodes order
down_zeroed {nodes} {order} {nodes₁} {nodes₂} a b m =
    let k : length (node_cells (moved_nodes nodes 0 order)) ≡ length order * node_width = length-moved_nodes nodes 0 order in
    let laid : nodes₁ ≡ node_cells (moved_nodes nodes 0 order) ++ drop (length order * node_width) nodes =
    a.laid ∙ ap (λ o. node_cells (moved_nodes nodes 0 o) ++ drop (length order * node_width) nodes) (take_all (length order) order (omega arith)) in
    b ∙ ap (λ x. zeroed_from x (length order * node_width)) laid
    ∙ zeroed (node_cells (moved_nodes nodes 0 order)) (drop (length order * node_width) nodes) (length nodes) (length order * node_width) k
    (sym (length-append (node_cells (moved_nodes nodes 0 order)) (drop (length order * node_width) nodes) ∙ omega (arith, k, m, length-drop (length order * node_width) nodes)))
