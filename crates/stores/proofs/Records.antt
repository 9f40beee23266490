-- Laws of records in padded stores: one is claimed and nothing is written; it is written; an entry is linked; a slot is reserved and filled.
-- Each says of a store that keeps the cells of a list of records which list it keeps afterwards. Assumes nothing.
use mathlib.Core.Path.{◌≡◌, refl, sym, ap, ap₂, ◌∙◌}
use Prim.Native.Nat.{ℕ, zero, suc, ◌+◌, ◌*◌, ◌≤◌, ◌<◌}
use native.Mathlib.Omega.{arith}
use mathlib.Core.List.{List, [], ◌∷◌, ◌++◌}
use lib.ListN.{length, get_or, set, length-append, length-set}
use lib.Seq.{sets, length-sets, set_at}
use Rattle.refusals.specs.Limits.{nothing}
use Rattle.clearing.specs.Lent.{padded}
use Rattle.grammar.specs.State.{Node, Entry, blank, unlinked, node_width, entry_width, node_cells, entry_cells}
use Rattle.grammar.specs.Steps.{reserve, fill}
use Rattle.grammar.proofs.Contents.{length-node_cells, length-entry_cells}
use Rattle.stores.specs.Written.{Keeps, NodeIn, EntryIn, node_written, entry_written, entry_linked}
use Rattle.stores.proofs.Padded.{set-padded, sets-inside, padded-zeros}

-- Lengths.

node_cells-append : (xs ys : List Node) → node_cells (xs ++ ys) ≡ node_cells xs ++ node_cells ys
node_cells-append [] ys = refl
node_cells-append (x ∷ xs) ys = ap (λ t. x.letter ∷ x.place ∷ x.size ∷ x.first ∷ x.count ∷ x.end ∷ x.input ∷ t) (node_cells-append xs ys)

entry_cells-append : (xs ys : List Entry) → entry_cells (xs ++ ys) ≡ entry_cells xs ++ entry_cells ys
entry_cells-append [] ys = refl
entry_cells-append (x ∷ xs) ys = ap (λ t. x.child ∷ x.next ∷ t) (entry_cells-append xs ys)

-- A record among records, as numbers among numbers.

sets-cons : (x : ℕ) (xs : List ℕ) (i : ℕ) (vs : List ℕ) → sets (x ∷ xs) (suc i) vs ≡ x ∷ sets xs i vs
sets-cons x xs i [] = refl
sets-cons x xs i (v ∷ vs) = sets-cons x (set xs i v) (suc i) vs

sets-after : (ys xs : List ℕ) (i : ℕ) (vs : List ℕ) → sets (ys ++ xs) (length ys + i) vs ≡ ys ++ sets xs i vs
sets-after [] xs i vs = let e : 0 + i ≡ i = omega arith in rw e refl
sets-after (y ∷ ys) xs i vs =
    let e : suc (length ys) + i ≡ suc (length ys + i) = omega arith in
    rw e (sets-cons y (ys ++ xs) (length ys + i) vs ∙ ap (λ t. y ∷ t) (sets-after ys xs i vs))

node-set : (ns : List Node) (n : ℕ) (r : Node) → n < length ns → node_cells (set ns n r) ≡ node_written (node_cells ns) n r
node-set [] n r h = absurd (omega arith)
node-set (x ∷ xs) zero r h = refl
node-set (x ∷ xs) (suc m) r h =
    let e : suc m * node_width ≡ node_width + m * node_width = omega arith in
    rw e
    (ap (λ t. node_cells (x ∷ []) ++ t) (node-set xs m r (omega arith))
    ∙ sym (sets-after (node_cells (x ∷ [])) (node_cells xs) (m * node_width) (node_cells (r ∷ []))))

pub entry_set : (es : List Entry) (e : ℕ) (r : Entry) → e < length es → entry_cells (set es e r) ≡ entry_written (entry_cells es) e r
entry_set [] e r h = absurd (omega arith)
entry_set (x ∷ xs) zero r h = refl
entry_set (x ∷ xs) (suc m) r h =
    let e : suc m * entry_width ≡ entry_width + m * entry_width = omega arith in
    rw e
    (ap (λ t. entry_cells (x ∷ []) ++ t) (entry_set xs m r (omega arith))
    ∙ sym (sets-after (entry_cells (x ∷ [])) (entry_cells xs) (m * entry_width) (entry_cells (r ∷ []))))

entry_link : (es : List Entry) (last next : ℕ) → last < length es
    → entry_cells (set es last (record { child = (get_or es last unlinked).child; next = next })) ≡ entry_linked (entry_cells es) last next
entry_link [] last next h = absurd (omega arith)
entry_link (x ∷ xs) zero next h = refl
entry_link (x ∷ xs) (suc m) next h =
    let e : suc m * entry_width + 1 ≡ suc (suc (m * entry_width + 1)) = omega arith in
    rw e (ap (λ t. x.child ∷ x.next ∷ t) (entry_link xs m next (omega arith)))

-- The stores.

-- a node is claimed: nothing is written
pub node_claimed : {store : List ℕ} (ns : List Node) → Keeps store (node_cells ns) → NodeIn store (length ns)
    → Keeps store (node_cells (ns ++ blank ∷ []))
node_claimed {store} ns k h =
    k ∙ sym (ap (padded (length store)) (node_cells-append ns (blank ∷ [])) ∙ padded-zeros (length store) (node_cells ns) node_width (omega (arith, length-node_cells ns)))

-- a node's record is written
pub node_written_lem : {store : List ℕ} (ns : List Node) (n : ℕ) (r : Node) → Keeps store (node_cells ns) → n < length ns
    → Keeps (node_written store n r) (node_cells (set ns n r))
node_written_lem {store} ns n r k h =
    ap (λ t. node_written t n r) k
    ∙ sets-inside (length store) (node_cells ns) (n * node_width) (node_cells (r ∷ [])) (omega (arith, length-node_cells ns))
    ∙ ap₂ padded (sym (length-sets store (n * node_width) (node_cells (r ∷ [])))) (sym (node-set ns n r h))

-- an entry is claimed and written
pub entry_written_lem : {store : List ℕ} (es : List Entry) (v : ℕ) → Keeps store (entry_cells es) → EntryIn store (length es)
    → Keeps (entry_written store (length es) (record { child = v; next = nothing })) (entry_cells (es ++ record { child = v; next = nothing } ∷ []))
entry_written_lem {store} es v k h =
    ap (λ t. entry_written t (length es) new) (k ∙ grown)
    ∙ sets-inside (length store) (entry_cells more) (length es * entry_width) (entry_cells (new ∷ [])) (omega (arith, length-entry_cells more, length-append es (unlinked ∷ [])))
    ∙ ap₂ padded (sym (length-sets store (length es * entry_width) (entry_cells (new ∷ []))))
    (sym (entry_set more (length es) new (omega (arith, length-append es (unlinked ∷ [])))) ∙ ap entry_cells (set_at es unlinked [] new (length es) refl))
  where
    new : Entry
    new = record { child = v; next = nothing }

    more : List Entry
    more = es ++ unlinked ∷ []

    grown : padded (length store) (entry_cells es) ≡ padded (length store) (entry_cells more)
    grown =
        sym (ap (padded (length store)) (entry_cells-append es (unlinked ∷ [])) ∙ padded-zeros (length store) (entry_cells es) entry_width (omega (arith, length-entry_cells es)))

-- an entry is linked to the next
pub entry_linked_lem : {store : List ℕ} (es : List Entry) (last next : ℕ) → Keeps store (entry_cells es) → last < length es
    → Keeps (entry_linked store last next) (entry_cells (set es last (record { child = (get_or es last unlinked).child; next = next })))
entry_linked_lem {store} es last next k h =
    ap (λ t. entry_linked t last next) k
    ∙ set-padded (length store) (entry_cells es) (last * entry_width + 1) next (omega (arith, length-entry_cells es))
    ∙ ap₂ padded (sym (length-set store (last * entry_width + 1) next)) (sym (entry_link es last next h))

-- a slot is reserved: nothing is written
pub slot-reserved : {store : List ℕ} (slots : List ℕ) (flag : ℕ) → Keeps store slots → length slots + flag ≤ length store → Keeps store (reserve flag slots)
slot-reserved slots zero k h = k
slot-reserved {store} slots (suc f) k h = k ∙ sym (padded-zeros (length store) slots 1 (omega arith))

pub length-reserve : (flag : ℕ) (slots : List ℕ) → flag ≤ 1 → length (reserve flag slots) ≡ length slots + flag
length-reserve zero slots h = omega arith
length-reserve (suc f) slots h = length-append slots (0 ∷ []) ∙ omega arith

pub length-fill : (flag slot node : ℕ) (slots : List ℕ) → length (fill flag slot node slots) ≡ length slots
length-fill zero slot node slots = refl
length-fill (suc f) slot node slots = length-set slots slot (node + 1)

-- a slot is filled
pub slot_filled : {store : List ℕ} (slots : List ℕ) (flag slot node : ℕ) → Keeps store slots → slot + flag ≤ length slots
    → Keeps (fill flag slot node store) (fill flag slot node slots)
slot_filled slots zero slot node k h = k
slot_filled {store} slots (suc f) slot node k h =
    ap (λ t. set t slot (node + 1)) k
    ∙ set-padded (length store) slots slot (node + 1) (omega arith)
    ∙ ap (λ m. padded m (set slots slot (node + 1))) (sym (length-set store slot (node + 1)))

-- what the code of `fill_slot` does where there is a flag
pub fill-some : (flag slot node : ℕ) (slots : List ℕ) → (flag ≡ 0 → ⊥) → set slots slot (node + 1) ≡ fill flag slot node slots
fill-some zero slot node slots h = absurd (h refl)
fill-some (suc f) slot node slots h = refl

-- What the code of `write_node` and `write_entry` stores, one number after another.
pub node-stores : (store : List ℕ) (n : ℕ) (r : Node)
    → set (set (set (set (set (set (set store (n * node_width) r.letter) (n * node_width + 1) r.place) (n * node_width + 2) r.size)
    (n * node_width + 3) r.first) (n * node_width + 4) r.count) (n * node_width + 5) r.end) (n * node_width + 6) r.input
    ≡ node_written store n r
node-stores store n r =
    let e₁ : n * node_width + 1 ≡ suc (n * node_width) = omega arith in
    let e₂ : n * node_width + 2 ≡ suc (suc (n * node_width)) = omega arith in
    let e₃ : n * node_width + 3 ≡ suc (suc (suc (n * node_width))) = omega arith in
    let e₄ : n * node_width + 4 ≡ suc (suc (suc (suc (n * node_width)))) = omega arith in
    let e₅ : n * node_width + 5 ≡ suc (suc (suc (suc (suc (n * node_width))))) = omega arith in
    let e₆ : n * node_width + 6 ≡ suc (suc (suc (suc (suc (suc (n * node_width)))))) = omega arith in
    rw (e₁, e₂, e₃, e₄, e₅, e₆) refl

pub entry-stores : (store : List ℕ) (e child next : ℕ)
    → set (set store (e * entry_width) child) (e * entry_width + 1) next ≡ entry_written store e (record { child = child; next = next })
entry-stores store e child next = let e₁ : e * entry_width + 1 ≡ suc (e * entry_width) = omega arith in rw e₁ refl
