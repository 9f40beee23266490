-- Of what a move left: each node there is a kept one, its children are the moved children, and every number but its first entry's stayed.
-- Assumes nothing.
use mathlib.Core.Path.{◌≡◌, refl, sym, ap, subst, ◌∙◌}
use Prim.Native.Nat.{ℕ, zero, suc, ◌+◌, ◌<◌}
use native.Mathlib.Omega.{arith}
use mathlib.Core.Bool.{true}
use mathlib.Core.List.{List, [], ◌∷◌, map}
use lib.ListN.{length, get_or}
use Rattle.grammar.specs.State.{node_at}
use Rattle.keepvisit.specs.Visit.{Stores, stores, visited, member, chains, chain_of, children, place_in, visit_from}
use Rattle.keepvisit.proofs.Members.{member-cons_same}
use Rattle.keepvisit.proofs.Closed.{either, empty, member_right, kept-children}
use Rattle.keepvisit.proofs.Distinct.{within, visited-once}
use Rattle.keepmove.specs.Moved.{run, nodes_after, entries_after}
use Rattle.keepmove.proofs.Laying.{length-chains}
use Rattle.keepmove.proofs.Same.{same_node, same_children, chain-inside, place-below}
use Rattle.keepmove.proofs.Again.{numbered}
use Rattle.oneinput.specs.Inputs.{OneInput}

nth_member : (xs : List ℕ) (i : ℕ) → i < length xs → member (get_or xs i 0) xs ≡ true
nth_member [] i h = absurd (omega arith)
nth_member (x ∷ xs) zero h = member-cons_same x xs
nth_member (x ∷ xs) (suc i) h = member_right (get_or xs i 0) (x ∷ []) xs (nth_member xs i (omega arith))

nth_mapped : (f : ℕ → ℕ) (xs : List ℕ) (i : ℕ) → i < length xs → get_or (map f xs) i 0 ≡ f (get_or xs i 0)
nth_mapped f [] i h = absurd (omega arith)
nth_mapped f (x ∷ xs) zero h = refl
nth_mapped f (x ∷ xs) (suc i) h = nth_mapped f xs i (omega arith)

nth_run : (at count i : ℕ) → i < count → get_or (run at count) i 0 ≡ at + i
unfolding run
nth_run at zero i h = absurd (omega arith)
nth_run at (suc more) zero h = omega arith
nth_run at (suc more) (suc i) h = nth_run (at + 1) more i (omega arith) ∙ omega arith

-- what is among the images is the image of one
in_mapped : (f : ℕ → ℕ) (y : ℕ) (xs : List ℕ) → member y (map f xs) ≡ true → (x : ℕ) × (y ≡ f x) × (member x xs ≡ true)
in_mapped f y [] h = absurd (empty y h)
in_mapped f y (x ∷ xs) h =
    either y (f x) (map f xs) h (λ e. (x, e, member-cons_same x xs)) (λ m. let k = in_mapped f y xs m in (k.0, k.1, member_right k.0 (x ∷ []) xs k.2))

module _ (t : Stores) (root : ℕ) (order : List ℕ) (found : visit_from t root ≡ visited order) where
  abbrev after : Stores
  after = stores (nodes_after t.nodes order) (entries_after t order) (length order) (length (chains t order))

  -- a node there is the place of a kept one
  which : (P : ℕ → Type 0) (i : ℕ) → i < length order → ((n : ℕ) → member n order ≡ true → P (place_in order n)) → P i
  which P i l h =
      let n = get_or order i 0 in
      let own : place_in order n ≡ i = sym (nth_mapped (place_in order) order i l) ∙ ap (λ x. get_or x i 0) (numbered t root order found) ∙ nth_run 0 (length order) i l ∙ omega arith in
      subst P own (h n (nth_member order i l))

  input_stays : (n : ℕ) → member n order ≡ true → (node_at after.nodes (place_in order n)).input ≡ (node_at t.nodes n).input
  input_stays n k = ap (λ r. r.input) (same_node t order n k)

  -- a child there is the place of a child
  child_of_lem : (n : ℕ) → member n order ≡ true → (c : ℕ) → member c (children after (place_in order n)) ≡ true → (d : ℕ) × (c ≡ place_in order d) × (member d (children t n) ≡ true)
  child_of_lem n k c m = in_mapped (place_in order) c (children t n) (sym (ap (member c) (same_children t order n k (length order) (length (chains t order)))) ∙ m)

  kept : (n : ℕ) → member n order ≡ true → n < t.node_limit
  kept n k = within t.node_limit n order (visited-once t root order found).nodes k

  pub moved_one : OneInput t → OneInput after
  moved_one o =
      record {
        chained = λ n e l.
            which (λ n. member e (chain_of after n) ≡ true → e < length (chains t order)) n l
            (λ m k h. omega (arith, chain-inside t order m (length order) (length (chains t order)) e k h, length-chains t order));
        counted = λ n c l.
            which (λ n. member c (children after n) ≡ true → c < length order) n l
            (λ m k h.
            let d = child_of_lem m k c h in
            subst (λ x. x < length order) (sym d.1) (place-below order d.0 (kept-children t root order found m k d.0 d.2)));
        alike = λ n c l.
            which (λ n. member c (children after n) ≡ true → (node_at after.nodes c).input ≡ (node_at after.nodes n).input) n l
            (λ m k h.
            let d = child_of_lem m k c h in
            ap (λ x. (node_at after.nodes x).input) d.1 ∙ input_stays d.0 (kept-children t root order found m k d.0 d.2) ∙ o.alike m d.0 (kept m k) d.2 ∙ sym (input_stays m k));
      }
