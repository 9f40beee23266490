-- Columns laid over a store and zeros behind them are the moved records. Assumes nothing.
use mathlib.Core.Path.{◌≡◌, refl, sym, ap, ap₂, ◌∙◌}
use Prim.Native.Nat.{ℕ, suc, ◌+◌, ◌-◌, ◌*◌, ◌≤◌, ◌<◌}
use native.Mathlib.Omega.{arith}
use native.Mathlib.Nat.{add-zero}
use mathlib.Core.Bool.{Bool, true, false, cond, ◌||◌}
use mathlib.Core.List.{List, [], ◌∷◌, ◌++◌}
use lib.ListN.{length, get_or, set, take, drop, length-append, length-set, length-drop}
use lib.Seq.{sets, take_at, get_or-set_other}
use lib.Dec.{ltb, eqb}
use borrow.Author.Tests.{ltb-true, ltb-false}
use Rattle.refusals.specs.Limits.{nothing}
use Rattle.clearing.specs.Lent.{zeros, padded}
use Rattle.grammar.specs.State.{Entry, node_at, node_cells, entry_cells}
use Rattle.keepvisit.specs.Visit.{Stores, stores, member, linked, children_of, children, chain_of, chains, place_in}
use Rattle.keepmove.specs.Moved.{first_of, moved_nodes, relinked, moved_entries, nodes_after, entries_after}
use Rattle.keepvisit.specs.Found.{rank, Found}
use Rattle.keepmove.specs.Laid.{by_rank, new_at, kids_of, all_kids, links_of, all_links, total, firsts_of, column_of, stepped, zeroed_from}
use Rattle.keepvisit.proofs.Members.{never}
use Rattle.keepvisit.proofs.Distinct.{fresh-below}
use Rattle.keepvisit.proofs.Pushing.{length-linked, length-children_of}
use Rattle.keepvisit.proofs.Ranks.{drop-sets}
use Rattle.keepmove.proofs.Containers.{length-kids_of, length-links_of}

-- Stores at every so many places.

pub length-stepped : (store : List ℕ) (at w : ℕ) (vs : List ℕ) → length (stepped store at w vs) ≡ length store
unfolding stepped
length-stepped store at w [] = refl
length-stepped store at w (v ∷ vs) = length-stepped (set store at v) (at + w) w vs ∙ length-set store at v

stepped-cons : (x : ℕ) (xs : List ℕ) (i w : ℕ) (vs : List ℕ) → stepped (x ∷ xs) (suc i) w vs ≡ x ∷ stepped xs i w vs
unfolding stepped
stepped-cons x xs i w [] = refl
stepped-cons x xs i w (v ∷ vs) =
    let e : suc i + w ≡ suc (i + w) = omega arith in
    ap (λ k. stepped (x ∷ set xs i v) k w vs) e ∙ stepped-cons x (set xs i v) (i + w) w vs

stepped-after : (ys xs : List ℕ) (i w : ℕ) (vs : List ℕ) → stepped (ys ++ xs) (length ys + i) w vs ≡ ys ++ stepped xs i w vs
stepped-after [] xs i w vs = let e : 0 + i ≡ i = omega arith in rw e refl
stepped-after (y ∷ ys) xs i w vs =
    let e : suc (length ys) + i ≡ suc (length ys + i) = omega arith in
    rw e (stepped-cons y (ys ++ xs) (length ys + i) w vs ∙ ap (λ t. y ∷ t) (stepped-after ys xs i w vs))

-- a column is not touched by another
pub stepped-other : (store : List ℕ) (c n i j : ℕ) (vs : List ℕ) → c < 7 → j < 7 → (c ≡ j → ⊥) → get_or (stepped store (i * 7 + c) 7 vs) (n * 7 + j) 0 ≡ get_or store (n * 7 + j) 0
unfolding stepped
stepped-other store c n i j [] a b o = refl
stepped-other store c n i j (v ∷ vs) a b o =
    let e : i * 7 + c + 7 ≡ suc i * 7 + c = omega arith in
    ap (λ k. get_or (stepped (set store (i * 7 + c) v) k 7 vs) (n * 7 + j) 0) e
    ∙ stepped-other (set store (i * 7 + c) v) c n (suc i) j vs a b o
    ∙ get_or-set_other store (i * 7 + c) (n * 7 + j) v 0 (λ p. apart n i c j a b o p)
  where
    apart : (n i c j : ℕ) → c < 7 → j < 7 → (c ≡ j → ⊥) → n * 7 + j ≡ i * 7 + c → ⊥
    apart n i c j a b o p = o (omega arith)

pub column_other : (store : List ℕ) (c j : ℕ) (vs ns : List ℕ) → c < 7 → j < 7 → (c ≡ j → ⊥) → column_of (stepped store c 7 vs) j ns ≡ column_of store j ns
unfolding column_of
column_other store c j vs [] a b o = refl
column_other store c j vs (n ∷ ns) a b o =
    let e : 0 * 7 + c ≡ c = omega arith in
    ap₂ (λ x y. x ∷ y) (ap (λ k. get_or (stepped store k 7 vs) (n * 7 + j) 0) (sym e) ∙ stepped-other store c n 0 j vs a b o) (column_other store c j vs ns a b o)

-- what was stored in a row is read from there
pub sets-read : (s : List ℕ) (i : ℕ) (vs : List ℕ) (m : ℕ) → length vs ≡ m → i + m ≤ length s → take m (drop i (sets s i vs)) ≡ vs
sets-read s i vs m e h = ap (take m) (drop-sets s i vs (omega arith)) ∙ take_at vs (drop (i + length vs) s) m e

-- zeros behind what was laid in front
pub zeroed : (cells rest : List ℕ) (n m : ℕ) → length cells ≡ m → n ≡ length (cells ++ rest) → zeroed_from (cells ++ rest) m ≡ padded n cells
unfolding padded
zeroed cells rest n m e l = ap₂ (λ a b. a ++ zeros b) (take_at cells rest m e) (ap₂ (λ a b. a - b) (sym l) (sym e))

-- Nodes.

abbrev laid_nodes : (store nodes : List ℕ) → (at : ℕ) → List ℕ → List ℕ
laid_nodes store nodes at ns =
    stepped (stepped (stepped (stepped (stepped (stepped (stepped store 3 7 (firsts_of nodes at ns)) 0 7 (column_of nodes 0 ns)) 1 7 (column_of nodes 1 ns)) 2 7 (column_of nodes 2 ns)) 4 7 (column_of nodes 4 ns)) 5 7 (column_of nodes 5 ns)) 6 7 (column_of nodes 6 ns)

pub length-moved_nodes : (nodes : List ℕ) (at : ℕ) (ns : List ℕ) → length (node_cells (moved_nodes nodes at ns)) ≡ length ns * 7
unfolding moved_nodes
length-moved_nodes nodes at [] = refl
length-moved_nodes nodes at (n ∷ ns) = omega (arith, length-moved_nodes nodes (at + (node_at nodes n).count) ns)

row : (x₀ x₁ x₂ x₃ x₄ x₅ x₆ : ℕ) (tail : List ℕ) (i : ℕ) (vs : List ℕ) → stepped (x₀ ∷ x₁ ∷ x₂ ∷ x₃ ∷ x₄ ∷ x₅ ∷ x₆ ∷ tail) (7 + i) 7 vs ≡ x₀ ∷ x₁ ∷ x₂ ∷ x₃ ∷ x₄ ∷ x₅ ∷ x₆ ∷ stepped tail i 7 vs
row x₀ x₁ x₂ x₃ x₄ x₅ x₆ tail i vs = stepped-after (x₀ ∷ x₁ ∷ x₂ ∷ x₃ ∷ x₄ ∷ x₅ ∷ x₆ ∷ []) tail i 7 vs

in_column_0 : (x₀ x₁ x₂ x₃ x₄ x₅ x₆ v : ℕ) (tail vs : List ℕ) → stepped (x₀ ∷ x₁ ∷ x₂ ∷ x₃ ∷ x₄ ∷ x₅ ∷ x₆ ∷ tail) 0 7 (v ∷ vs) ≡ v ∷ x₁ ∷ x₂ ∷ x₃ ∷ x₄ ∷ x₅ ∷ x₆ ∷ stepped tail 0 7 vs
unfolding stepped
in_column_0 x₀ x₁ x₂ x₃ x₄ x₅ x₆ v tail vs = row v x₁ x₂ x₃ x₄ x₅ x₆ tail 0 vs

in_column_1 : (x₀ x₁ x₂ x₃ x₄ x₅ x₆ v : ℕ) (tail vs : List ℕ) → stepped (x₀ ∷ x₁ ∷ x₂ ∷ x₃ ∷ x₄ ∷ x₅ ∷ x₆ ∷ tail) 1 7 (v ∷ vs) ≡ x₀ ∷ v ∷ x₂ ∷ x₃ ∷ x₄ ∷ x₅ ∷ x₆ ∷ stepped tail 1 7 vs
unfolding stepped
in_column_1 x₀ x₁ x₂ x₃ x₄ x₅ x₆ v tail vs = row x₀ v x₂ x₃ x₄ x₅ x₆ tail 1 vs

in_column_2 : (x₀ x₁ x₂ x₃ x₄ x₅ x₆ v : ℕ) (tail vs : List ℕ) → stepped (x₀ ∷ x₁ ∷ x₂ ∷ x₃ ∷ x₄ ∷ x₅ ∷ x₆ ∷ tail) 2 7 (v ∷ vs) ≡ x₀ ∷ x₁ ∷ v ∷ x₃ ∷ x₄ ∷ x₅ ∷ x₆ ∷ stepped tail 2 7 vs
unfolding stepped
in_column_2 x₀ x₁ x₂ x₃ x₄ x₅ x₆ v tail vs = row x₀ x₁ v x₃ x₄ x₅ x₆ tail 2 vs

in_column_3 : (x₀ x₁ x₂ x₃ x₄ x₅ x₆ v : ℕ) (tail vs : List ℕ) → stepped (x₀ ∷ x₁ ∷ x₂ ∷ x₃ ∷ x₄ ∷ x₅ ∷ x₆ ∷ tail) 3 7 (v ∷ vs) ≡ x₀ ∷ x₁ ∷ x₂ ∷ v ∷ x₄ ∷ x₅ ∷ x₆ ∷ stepped tail 3 7 vs
unfolding stepped
in_column_3 x₀ x₁ x₂ x₃ x₄ x₅ x₆ v tail vs = row x₀ x₁ x₂ v x₄ x₅ x₆ tail 3 vs

in_column_4 : (x₀ x₁ x₂ x₃ x₄ x₅ x₆ v : ℕ) (tail vs : List ℕ) → stepped (x₀ ∷ x₁ ∷ x₂ ∷ x₃ ∷ x₄ ∷ x₅ ∷ x₆ ∷ tail) 4 7 (v ∷ vs) ≡ x₀ ∷ x₁ ∷ x₂ ∷ x₃ ∷ v ∷ x₅ ∷ x₆ ∷ stepped tail 4 7 vs
unfolding stepped
in_column_4 x₀ x₁ x₂ x₃ x₄ x₅ x₆ v tail vs = row x₀ x₁ x₂ x₃ v x₅ x₆ tail 4 vs

in_column_5 : (x₀ x₁ x₂ x₃ x₄ x₅ x₆ v : ℕ) (tail vs : List ℕ) → stepped (x₀ ∷ x₁ ∷ x₂ ∷ x₃ ∷ x₄ ∷ x₅ ∷ x₆ ∷ tail) 5 7 (v ∷ vs) ≡ x₀ ∷ x₁ ∷ x₂ ∷ x₃ ∷ x₄ ∷ v ∷ x₆ ∷ stepped tail 5 7 vs
unfolding stepped
in_column_5 x₀ x₁ x₂ x₃ x₄ x₅ x₆ v tail vs = row x₀ x₁ x₂ x₃ x₄ v x₆ tail 5 vs

in_column_6 : (x₀ x₁ x₂ x₃ x₄ x₅ x₆ v : ℕ) (tail vs : List ℕ) → stepped (x₀ ∷ x₁ ∷ x₂ ∷ x₃ ∷ x₄ ∷ x₅ ∷ x₆ ∷ tail) 6 7 (v ∷ vs) ≡ x₀ ∷ x₁ ∷ x₂ ∷ x₃ ∷ x₄ ∷ x₅ ∷ v ∷ stepped tail 6 7 vs
unfolding stepped
in_column_6 x₀ x₁ x₂ x₃ x₄ x₅ x₆ v tail vs = row x₀ x₁ x₂ x₃ x₄ x₅ v tail 6 vs

drop-row : (x₀ x₁ x₂ x₃ x₄ x₅ x₆ : ℕ) (tail : List ℕ) (m : ℕ) → drop (suc m * 7) (x₀ ∷ x₁ ∷ x₂ ∷ x₃ ∷ x₄ ∷ x₅ ∷ x₆ ∷ tail) ≡ drop (m * 7) tail
drop-row x₀ x₁ x₂ x₃ x₄ x₅ x₆ tail m = let e : suc m * 7 ≡ suc (suc (suc (suc (suc (suc (suc (m * 7))))))) = omega arith in rw e refl

rows : (nodes ns : List ℕ) (at : ℕ) (store : List ℕ) → length ns * 7 ≤ length store → laid_nodes store nodes at ns ≡ node_cells (moved_nodes nodes at ns) ++ drop (length ns * 7) store
unfolding moved_nodes firsts_of column_of stepped
rows nodes [] at store h = refl
rows nodes (n ∷ ns) at ([]) h = absurd (omega arith)
rows nodes (n ∷ ns) at (x₀ ∷ []) h = absurd (omega arith)
rows nodes (n ∷ ns) at (x₀ ∷ x₁ ∷ []) h = absurd (omega arith)
rows nodes (n ∷ ns) at (x₀ ∷ x₁ ∷ x₂ ∷ []) h = absurd (omega arith)
rows nodes (n ∷ ns) at (x₀ ∷ x₁ ∷ x₂ ∷ x₃ ∷ []) h = absurd (omega arith)
rows nodes (n ∷ ns) at (x₀ ∷ x₁ ∷ x₂ ∷ x₃ ∷ x₄ ∷ []) h = absurd (omega arith)
rows nodes (n ∷ ns) at (x₀ ∷ x₁ ∷ x₂ ∷ x₃ ∷ x₄ ∷ x₅ ∷ []) h = absurd (omega arith)
rows nodes (n ∷ ns) at (x₀ ∷ x₁ ∷ x₂ ∷ x₃ ∷ x₄ ∷ x₅ ∷ x₆ ∷ tail) h =
    ap (λ t. stepped (stepped (stepped (stepped (stepped (stepped t 0 7 (column_of nodes 0 (n ∷ ns))) 1 7 (column_of nodes 1 (n ∷ ns))) 2 7 (column_of nodes 2 (n ∷ ns))) 4 7 (column_of nodes 4 (n ∷ ns))) 5 7 (column_of nodes 5 (n ∷ ns))) 6 7 (column_of nodes 6 (n ∷ ns))) (in_column_3 x₀ x₁ x₂ x₃ x₄ x₅ x₆ (first_of (node_at nodes n).count at) tail (firsts_of nodes (at + (node_at nodes n).count) ns))
    ∙ ap (λ t. stepped (stepped (stepped (stepped (stepped t 1 7 (column_of nodes 1 (n ∷ ns))) 2 7 (column_of nodes 2 (n ∷ ns))) 4 7 (column_of nodes 4 (n ∷ ns))) 5 7 (column_of nodes 5 (n ∷ ns))) 6 7 (column_of nodes 6 (n ∷ ns))) (in_column_0 x₀ x₁ x₂ (first_of (node_at nodes n).count at) x₄ x₅ x₆ (get_or nodes (n * 7 + 0) 0) (stepped tail 3 7 (firsts_of nodes (at + (node_at nodes n).count) ns)) (column_of nodes 0 ns))
    ∙ ap (λ t. stepped (stepped (stepped (stepped t 2 7 (column_of nodes 2 (n ∷ ns))) 4 7 (column_of nodes 4 (n ∷ ns))) 5 7 (column_of nodes 5 (n ∷ ns))) 6 7 (column_of nodes 6 (n ∷ ns))) (in_column_1 (get_or nodes (n * 7 + 0) 0) x₁ x₂ (first_of (node_at nodes n).count at) x₄ x₅ x₆ (get_or nodes (n * 7 + 1) 0) (stepped (stepped tail 3 7 (firsts_of nodes (at + (node_at nodes n).count) ns)) 0 7 (column_of nodes 0 ns)) (column_of nodes 1 ns))
    ∙ ap (λ t. stepped (stepped (stepped t 4 7 (column_of nodes 4 (n ∷ ns))) 5 7 (column_of nodes 5 (n ∷ ns))) 6 7 (column_of nodes 6 (n ∷ ns))) (in_column_2 (get_or nodes (n * 7 + 0) 0) (get_or nodes (n * 7 + 1) 0) x₂ (first_of (node_at nodes n).count at) x₄ x₅ x₆ (get_or nodes (n * 7 + 2) 0) (stepped (stepped (stepped tail 3 7 (firsts_of nodes (at + (node_at nodes n).count) ns)) 0 7 (column_of nodes 0 ns)) 1 7 (column_of nodes 1 ns)) (column_of nodes 2 ns))
    ∙ ap (λ t. stepped (stepped t 5 7 (column_of nodes 5 (n ∷ ns))) 6 7 (column_of nodes 6 (n ∷ ns))) (in_column_4 (get_or nodes (n * 7 + 0) 0) (get_or nodes (n * 7 + 1) 0) (get_or nodes (n * 7 + 2) 0) (first_of (node_at nodes n).count at) x₄ x₅ x₆ (get_or nodes (n * 7 + 4) 0) (stepped (stepped (stepped (stepped tail 3 7 (firsts_of nodes (at + (node_at nodes n).count) ns)) 0 7 (column_of nodes 0 ns)) 1 7 (column_of nodes 1 ns)) 2 7 (column_of nodes 2 ns)) (column_of nodes 4 ns))
    ∙ ap (λ t. stepped t 6 7 (column_of nodes 6 (n ∷ ns))) (in_column_5 (get_or nodes (n * 7 + 0) 0) (get_or nodes (n * 7 + 1) 0) (get_or nodes (n * 7 + 2) 0) (first_of (node_at nodes n).count at) (get_or nodes (n * 7 + 4) 0) x₅ x₆ (get_or nodes (n * 7 + 5) 0) (stepped (stepped (stepped (stepped (stepped tail 3 7 (firsts_of nodes (at + (node_at nodes n).count) ns)) 0 7 (column_of nodes 0 ns)) 1 7 (column_of nodes 1 ns)) 2 7 (column_of nodes 2 ns)) 4 7 (column_of nodes 4 ns)) (column_of nodes 5 ns))
    ∙ in_column_6 (get_or nodes (n * 7 + 0) 0) (get_or nodes (n * 7 + 1) 0) (get_or nodes (n * 7 + 2) 0) (first_of (node_at nodes n).count at) (get_or nodes (n * 7 + 4) 0) (get_or nodes (n * 7 + 5) 0) x₆ (get_or nodes (n * 7 + 6) 0) (stepped (stepped (stepped (stepped (stepped (stepped tail 3 7 (firsts_of nodes (at + (node_at nodes n).count) ns)) 0 7 (column_of nodes 0 ns)) 1 7 (column_of nodes 1 ns)) 2 7 (column_of nodes 2 ns)) 4 7 (column_of nodes 4 ns)) 5 7 (column_of nodes 5 ns)) (column_of nodes 6 ns)
    ∙ ap (λ k. get_or nodes k 0 ∷ get_or nodes (n * 7 + 1) 0 ∷ get_or nodes (n * 7 + 2) 0 ∷ first_of (node_at nodes n).count at ∷ get_or nodes (n * 7 + 4) 0 ∷ get_or nodes (n * 7 + 5) 0 ∷ get_or nodes (n * 7 + 6) 0 ∷ laid_nodes tail nodes (at + (node_at nodes n).count) ns) (add-zero (n * 7))
    ∙ ap (λ t. node_cells (moved_nodes nodes at (n ∷ [])) ++ t) (rows nodes ns (at + (node_at nodes n).count) tail (omega arith))
    ∙ ap (λ t. node_cells (moved_nodes nodes at (n ∷ ns)) ++ t) (sym (drop-row x₀ x₁ x₂ x₃ x₄ x₅ x₆ tail (length ns)))

pub nodes-laid : (nodes order : List ℕ) → length order * 7 ≤ length nodes → zeroed_from (laid_nodes nodes nodes 0 order) (length order * 7) ≡ nodes_after nodes order
nodes-laid nodes order h =
    ap (λ t. zeroed_from t (length order * 7)) (rows nodes order 0 nodes h)
    ∙ zeroed (node_cells (moved_nodes nodes 0 order)) (drop (length order * 7) nodes) (length nodes) (length order * 7) (length-moved_nodes nodes 0 order)
    (sym (length-append (node_cells (moved_nodes nodes 0 order)) (drop (length order * 7) nodes) ∙ omega (arith, length-moved_nodes nodes 0 order, length-drop (length order * 7) nodes)))

-- Entries.

abbrev zip_cells : (kids links : List ℕ) → List ℕ
zip_cells [] ls = []
zip_cells (k ∷ ks) [] = []
zip_cells (k ∷ ks) (l ∷ ls) = k ∷ l ∷ zip_cells ks ls

pairs : (ks ls store : List ℕ) → length ks ≡ length ls → length ks * 2 ≤ length store → stepped (stepped store 0 2 ks) 1 2 ls ≡ zip_cells ks ls ++ drop (length ks * 2) store
unfolding stepped
pairs [] [] store e h = refl
pairs [] (l ∷ ls) store e h = absurd (omega arith)
pairs (k ∷ ks) [] store e h = absurd (omega arith)
pairs (k ∷ ks) (l ∷ ls) [] e h = absurd (omega arith)
pairs (k ∷ ks) (l ∷ ls) (x ∷ []) e h = absurd (omega arith)
pairs (k ∷ ks) (l ∷ ls) (x ∷ y ∷ tail) e h =
    ap (λ t. stepped t 1 2 (l ∷ ls)) (stepped-after (k ∷ y ∷ []) tail 0 2 ks)
    ∙ stepped-after (k ∷ l ∷ []) (stepped tail 0 2 ks) 1 2 ls
    ∙ ap (λ t. k ∷ l ∷ t) (pairs ks ls tail (omega arith) (omega arith))
    ∙ ap (λ t. k ∷ l ∷ zip_cells ks ls ++ t) (sym (pass (length ks)))
  where
    pass : (m : ℕ) → drop (suc m * 2) (x ∷ y ∷ tail) ≡ drop (m * 2) tail
    pass m = let e : suc m * 2 ≡ suc (suc (m * 2)) = omega arith in rw e refl

length-zip : (ks ls : List ℕ) → length ks ≡ length ls → length (zip_cells ks ls) ≡ length ks * 2
length-zip [] ls e = refl
length-zip (k ∷ ks) [] e = absurd (omega arith)
length-zip (k ∷ ks) (l ∷ ls) e = omega (arith, length-zip ks ls (omega arith))

zip-append : (ks ls ks' ls' : List ℕ) → length ks ≡ length ls → zip_cells (ks ++ ks') (ls ++ ls') ≡ zip_cells ks ls ++ zip_cells ks' ls'
zip-append [] [] ks' ls' e = refl
zip-append [] (l ∷ ls) ks' ls' e = absurd (omega arith)
zip-append (k ∷ ks) [] ks' ls' e = absurd (omega arith)
zip-append (k ∷ ks) (l ∷ ls) ks' ls' e = ap (λ t. k ∷ l ∷ t) (zip-append ks ls ks' ls' (omega arith))

entry_cells-append : (xs ys : List Entry) → entry_cells (xs ++ ys) ≡ entry_cells xs ++ entry_cells ys
entry_cells-append [] ys = refl
entry_cells-append (x ∷ xs) ys = ap (λ t. x.child ∷ x.next ∷ t) (entry_cells-append xs ys)

-- The new numbers are the places in the order.

place_absent : (order : List ℕ) (n : ℕ) → member n order ≡ false → length order ≡ place_in order n
unfolding member place_in
place_absent [] n h = refl
place_absent (x ∷ xs) n h = absent (eqb n x) (member n xs) (place_in xs n) (length xs) h (λ m. place_absent xs n m)
  where
    absent : (t u : Bool) (p l : ℕ) → (t || u) ≡ false → (u ≡ false → l ≡ p) → suc l ≡ cond t 0 (suc p)
    absent true u p l h f = never (sym h)
    absent false u p l h f = ap suc (f h)

pub new_place : {t : Stores} {order s : List ℕ} → Found t order s → (n : ℕ) → new_at s t.node_limit (length order) n ≡ place_in order n
unfolding new_at rank
new_place {t} {order} {s} f n = go (ltb n t.node_limit) refl
  where
    ranked : (b : Bool) → member n order ≡ b → by_rank (length order) (cond b (suc (place_in order n)) 0) ≡ place_in order n
    ranked true m = refl
    ranked false m = place_absent order n m

    go : (b : Bool) → ltb n t.node_limit ≡ b → cond b (by_rank (length order) (get_or s (t.node_limit + n) 0)) (length order) ≡ place_in order n
    go true p = ap (by_rank (length order)) (f.ranked n (ltb-true n t.node_limit p)) ∙ ranked (member n order) refl
    go false p = place_absent order n (fresh-below t.node_limit n [] order f.distinct (ltb-false n t.node_limit p))

module _ (nodes entries s order : List ℕ) (bound limit kept : ℕ) (new : (n : ℕ) → new_at s bound kept n ≡ place_in order n) where
  chain-cells : (at : ℕ) (cs : List ℕ) → zip_cells (kids_of entries s bound kept cs) (links_of at (length cs)) ≡ entry_cells (relinked order at cs)
  unfolding kids_of links_of relinked
  chain-cells at [] = refl
  chain-cells at (c ∷ []) = ap (λ x. x ∷ nothing ∷ []) (new c)
  chain-cells at (c ∷ d ∷ cs) = ap₂ (λ x y. x ∷ (at + 1) ∷ y) (new c) (chain-cells (at + 1) (d ∷ cs))

  all_cells : (at : ℕ) (ns : List ℕ) → zip_cells (all_kids nodes entries s bound kept ns) (all_links nodes at ns) ≡ entry_cells (moved_entries (stores nodes entries bound limit) order at ns)
  unfolding all_kids all_links moved_entries
  all_cells at [] = refl
  all_cells at (n ∷ ns) =
      let t = stores nodes entries bound limit in
      let count : length (children t n) ≡ (node_at nodes n).count = length-children_of entries (chain_of t n) ∙ length-linked entries (node_at nodes n).count (node_at nodes n).first in
      zip-append (kids_of entries s bound kept (children t n)) (links_of at (node_at nodes n).count) (all_kids nodes entries s bound kept ns) (all_links nodes (at + (node_at nodes n).count) ns)
      (length-kids_of entries s bound kept (children t n) ∙ count ∙ sym (length-links_of at (node_at nodes n).count))
      ∙ ap₂ (λ x y. x ++ y) (ap (λ m. zip_cells (kids_of entries s bound kept (children t n)) (links_of at m)) (sym count) ∙ chain-cells at (children t n)) (all_cells (at + (node_at nodes n).count) ns)
      ∙ sym (entry_cells-append (relinked order at (children t n)) (moved_entries t order (at + (node_at nodes n).count) ns))

pub length-all_kids : (nodes entries s : List ℕ) (bound kept : ℕ) (ns : List ℕ) → length (all_kids nodes entries s bound kept ns) ≡ total nodes ns
unfolding all_kids total
length-all_kids nodes entries s bound kept [] = refl
length-all_kids nodes entries s bound kept (n ∷ ns) =
    let cs = children_of entries (linked entries (node_at nodes n).count (node_at nodes n).first) in
    length-append (kids_of entries s bound kept cs) (all_kids nodes entries s bound kept ns)
    ∙ ap₂ (λ a b. a + b) (length-kids_of entries s bound kept cs ∙ length-children_of entries _ ∙ length-linked entries (node_at nodes n).count (node_at nodes n).first)
    (length-all_kids nodes entries s bound kept ns)

pub length-all_links : (nodes : List ℕ) (at : ℕ) (ns : List ℕ) → length (all_links nodes at ns) ≡ total nodes ns
unfolding all_links total
length-all_links nodes at [] = refl
length-all_links nodes at (n ∷ ns) =
    length-append (links_of at (node_at nodes n).count) (all_links nodes (at + (node_at nodes n).count) ns)
    ∙ ap₂ (λ a b. a + b) (length-links_of at (node_at nodes n).count) (length-all_links nodes (at + (node_at nodes n).count) ns)

pub length-chains : (t : Stores) (ns : List ℕ) → length (chains t ns) ≡ total t.nodes ns
unfolding chains total
length-chains t [] = refl
length-chains t (n ∷ ns) =
    length-append (chain_of t n) (chains t ns) ∙ ap₂ (λ a b. a + b) (length-linked t.entries (node_at t.nodes n).count (node_at t.nodes n).first) (length-chains t ns)

pub length_firsts : (nodes : List ℕ) (at : ℕ) (ns : List ℕ) → length (firsts_of nodes at ns) ≡ length ns
unfolding firsts_of
length_firsts nodes at [] = refl
length_firsts nodes at (n ∷ ns) = ap suc (length_firsts nodes (at + (node_at nodes n).count) ns)

pub length_column : (nodes : List ℕ) (c : ℕ) (ns : List ℕ) → length (column_of nodes c ns) ≡ length ns
unfolding column_of
length_column nodes c [] = refl
length_column nodes c (n ∷ ns) = ap suc (length_column nodes c ns)

pub entries-laid : (nodes entries s order : List ℕ) (bound limit : ℕ) → Found (stores nodes entries bound limit) order s → total nodes order * 2 ≤ length entries
    → zeroed_from (stepped (stepped entries 0 2 (all_kids nodes entries s bound (length order) order)) 1 2 (all_links nodes 0 order)) (total nodes order * 2)
    ≡ entries_after (stores nodes entries bound limit) order
entries-laid nodes entries s order bound limit f h =
    let ks = all_kids nodes entries s bound (length order) order in
    let ls = all_links nodes 0 order in
    let a = length-all_kids nodes entries s bound (length order) order in
    let b = length-all_links nodes 0 order in
    ap (λ x. zeroed_from x (total nodes order * 2)) (pairs ks ls entries (a ∙ sym b) (omega arith))
    ∙ zeroed (zip_cells ks ls) (drop (length ks * 2) entries) (length entries) (total nodes order * 2) (omega (arith, length-zip ks ls (a ∙ sym b)))
    (sym (length-append (zip_cells ks ls) (drop (length ks * 2) entries) ∙ omega (arith, length-zip ks ls (a ∙ sym b), length-drop (length ks * 2) entries)))
    ∙ ap (padded (length entries)) (all_cells nodes entries s order bound limit (length order) (new_place f) 0 order)
