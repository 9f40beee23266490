-- A lookup in a store that keeps records is the lookup in the list of them, whatever the number looked up.
-- Assumes nothing.
use mathlib.Core.Path.{◌≡◌, refl, ap, ◌∙◌}
use Prim.Native.Nat.{ℕ, zero, suc, ◌+◌, ◌*◌}
use native.Mathlib.Omega.{arith}
use mathlib.Core.List.{List, [], ◌∷◌}
use lib.ListN.{length, get_or}
use Rattle.grammar.specs.State.{Node, Entry, blank, unlinked, node_width, entry_width, node_cells, entry_cells, node_at, entry_at}
use Rattle.stores.specs.Written.{Keeps}
use Rattle.stores.proofs.Padded.{get_d_padded}

-- the first number of a lookup among cells, and the others, by their place in the record
node_cell : (ns : List Node) (v : ℕ) → node_at (node_cells ns) v ≡ get_or ns v blank
node_cell [] v = refl
node_cell (n ∷ ns) zero = refl
node_cell (n ∷ ns) (suc m) =
    let e₀ : suc m * node_width ≡ suc (suc (suc (suc (suc (suc (suc (m * node_width))))))) = omega arith in
    let e₁ : suc m * node_width + 1 ≡ suc (suc (suc (suc (suc (suc (suc (m * node_width + 1))))))) = omega arith in
    let e₂ : suc m * node_width + 2 ≡ suc (suc (suc (suc (suc (suc (suc (m * node_width + 2))))))) = omega arith in
    let e₃ : suc m * node_width + 3 ≡ suc (suc (suc (suc (suc (suc (suc (m * node_width + 3))))))) = omega arith in
    let e₄ : suc m * node_width + 4 ≡ suc (suc (suc (suc (suc (suc (suc (m * node_width + 4))))))) = omega arith in
    let e₅ : suc m * node_width + 5 ≡ suc (suc (suc (suc (suc (suc (suc (m * node_width + 5))))))) = omega arith in
    let e₆ : suc m * node_width + 6 ≡ suc (suc (suc (suc (suc (suc (suc (m * node_width + 6))))))) = omega arith in
    rw (e₁, e₂, e₃, e₄, e₅, e₆, e₀) (node_cell ns m)

entry_cell : (es : List Entry) (e : ℕ) → entry_at (entry_cells es) e ≡ get_or es e unlinked
entry_cell [] e = refl
entry_cell (x ∷ es) zero = refl
entry_cell (x ∷ es) (suc m) =
    let e₀ : suc m * entry_width ≡ suc (suc (m * entry_width)) = omega arith in
    let e₁ : suc m * entry_width + 1 ≡ suc (suc (m * entry_width + 1)) = omega arith in
    rw (e₁, e₀) (entry_cell es m)

pub cell_kept : {store : List ℕ} (cells : List ℕ) (i : ℕ) → Keeps store cells → get_or store i 0 ≡ get_or cells i 0
cell_kept {store} cells i k = ap (λ l. get_or l i 0) k ∙ get_d_padded (length store) cells i

pub node_kept : {store : List ℕ} (ns : List Node) (v : ℕ) → Keeps store (node_cells ns) → node_at store v ≡ get_or ns v blank
node_kept {store} ns v k =
    (λ i. record {
      letter = cell_kept (node_cells ns) (v * node_width) k i;
      place = cell_kept (node_cells ns) (v * node_width + 1) k i;
      size = cell_kept (node_cells ns) (v * node_width + 2) k i;
      first = cell_kept (node_cells ns) (v * node_width + 3) k i;
      count = cell_kept (node_cells ns) (v * node_width + 4) k i;
      end = cell_kept (node_cells ns) (v * node_width + 5) k i;
      input = cell_kept (node_cells ns) (v * node_width + 6) k i;
    })
    ∙ node_cell ns v

pub entry_kept : {store : List ℕ} (es : List Entry) (e : ℕ) → Keeps store (entry_cells es) → entry_at store e ≡ get_or es e unlinked
entry_kept {store} es e k = (λ i. record { child = cell_kept (entry_cells es) (e * entry_width) k i; next = cell_kept (entry_cells es) (e * entry_width + 1) k i }) ∙ entry_cell es e
