-- The whole move: what the visit answered, and what each way out leaves. Assumes nothing.
use mathlib.Core.Path.{◌≡◌, refl, sym, ap, ap₂, subst, ◌∙◌}
use Prim.Native.Nat.{ℕ, ◌-◌, ◌*◌, ◌≤◌, ◌<◌}
use native.Mathlib.Omega.{arith}
use mathlib.Core.List.{List}
use lib.ListN.{length, take, length-replicate}
use borrow.Author.Tests.{lt-ltb, le-ltb}
use Rattle.std.specs.Prelude.{Result, Ok, Err}
use Rattle.refusals.specs.Faults.{fault, refused}
use Rattle.refusals.specs.declared.Fault.{Fault}
use Rattle.refusals.specs.declared.Refusal.TheVariants.{BadTable, NoRoom}
use Rattle.clearing.specs.Lent.{zeros}
use Rattle.grammar.specs.State.{node_width, node_capacity, entry_capacity}
use Rattle.grammar.specs.Record.{nodes_in, entries_in}
use Rattle.keep.specs.declared.Kept as declared
use Rattle.keepvisit.specs.declared.Seen.{Seen}
use Rattle.keepvisit.specs.Visit.{Stores, stores, Visited, bad, visited, visit, visit_from, chains}
use Rattle.keepvisit.specs.Found.{Found, Answers}
use Rattle.keepmove.specs.Laid.{total}
use Rattle.keepmove.specs.Parts.{Movable, AllMoved}
use Rattle.keep.specs.Kept.{Limits, Outcome, refuses, by_visit, outcome, moved_as, held_by, within, kept_of, Keeps, lent_stores, need}
use Rattle.keepmove.proofs.Laying.{length-chains}

-- What the visit answered.

fault_was : (t : Stores) (v : Visited) (r : Result Seen Fault) (s : List ℕ) (f : Fault) → Answers t v r s → r ≡ Err f → (place : ℕ) × (v ≡ bad place) × (f ≡ fault BadTable place)
fault_was t (bad p) r s f a e = (p, refl, cc)
fault_was t (visited order) r s f a e = let first = a.0 in absurd cc

pub record Was (t : Stores) (v : Visited) (kept moved : ℕ) (s : List ℕ) : Type 0 where
  pub order : List ℕ
  pub is : v ≡ visited order
  pub keeps : kept ≡ length order
  pub moves : moved ≡ length (chains t order)
  pub found : Found t order s

all_was : (t : Stores) (v : Visited) (r : Result Seen Fault) (s : List ℕ) (seen : Seen) → Answers t v r s → r ≡ Ok seen → Was t v seen.kept seen.moved s
all_was t (bad p) r s seen a e = absurd cc
all_was t (visited order) r s seen a e =
    let first = a.0 in
    let is : seen ≡ record { kept = length order; moved = length (chains t order) } = cc in
    record { order = order; is = refl; keeps = ap (λ (x : Seen). x.kept) is; moves = ap (λ (x : Seen). x.moved) is; found = a.1 }

visit-beyond : (t : Stores) (node : ℕ) → t.node_limit ≤ node → visit_from t node ≡ bad node
unfolding visit
visit-beyond t node h = rw (le-ltb node t.node_limit h)

module _ {nodes entries s : List ℕ} {bound limit : ℕ} (l : Limits nodes entries s bound limit) (node : ℕ) where
  abbrev given : Stores
  given = stores nodes entries bound limit

  module _ (slots : List ℕ) {r : Result declared.Kept Fault} where
    -- what a visit leaves is what the answer to it leaves
    by_visit_lem : {v : Visited} {nodes' entries' slots' s' : List ℕ} → visit_from given node ≡ v → Keeps (held_by (by_visit v) given slots) (length s) r nodes' entries' slots' s'
        → Keeps (within nodes entries slots bound limit node) (length s) r nodes' entries' slots' s'
    by_visit_lem {v} {nodes'} {entries'} {slots'} {s'} e k = subst (λ x. Keeps (held_by (by_visit x) given slots) (length s) r nodes' entries' slots' s') (sym e) k

    untouched : {place : ℕ} {s' : List ℕ} → visit_from given node ≡ bad place → r ≡ refused BadTable place → s' ≡ zeros (length s)
        → Keeps (within nodes entries slots bound limit node) (length s) r nodes entries slots s'
    untouched e a z = by_visit_lem e (record { answer = a; holds-nodes = refl; holds-entries = refl; holds-slots = refl; cleared = z })

    pub kept-beyond : bound ≤ node → r ≡ refused BadTable node → Keeps (within nodes entries slots bound limit node) (length s) r nodes entries slots s
    kept-beyond h e = untouched (visit-beyond given node h) e l.cleared

    pub kept-fault : {a : Result Seen Fault} (s₁ : List ℕ) {s₂ : List ℕ} {f : Fault} → Answers given (visit_from given node) a s₁ → a ≡ Err f
        → length s₁ ≡ length s → s₂ ≡ zeros (length s₁) → r ≡ Err f
        → Keeps (within nodes entries slots bound limit node) (length s) r nodes entries slots s₂
    kept-fault {a} s₁ {s₂} {f} v p k z e =
        let w = fault_was given (visit_from given node) a s₁ f v p in
        untouched w.1 (e ∙ ap Err w.2) (z ∙ ap zeros k)

    pub kept_all : {a : Result Seen Fault} (s₁ : List ℕ) {nodes' entries' slots' s₂ : List ℕ} {seen : Seen} {freed freed_entries : ℕ}
        → Answers given (visit_from given node) a s₁
        → a ≡ Ok seen → length s₁ ≡ length s → AllMoved nodes entries slots s₁ bound limit seen.kept nodes' entries' slots' s₂
        → freed ≡ node_capacity (length nodes) → freed_entries ≡ entry_capacity (length entries)
        → r ≡ Ok (record { nodes = seen.kept; entries = seen.moved; freenodes = freed - seen.kept; freeentries = freed_entries - seen.moved })
        → Keeps (within nodes entries slots bound limit node) (length s) r nodes' entries' slots' s₂
    kept_all {a} s₁ {nodes'} {entries'} {slots'} {s₂} {seen} {freed} {freed_entries} v p k m f g e =
        let w = all_was given (visit_from given node) a s₁ seen v p in
        by_visit_lem w.is
        (record {
          answer =
              e
              ∙ ap₂ (λ x y. Ok (record { nodes = seen.kept; entries = seen.moved; freenodes = x - seen.kept; freeentries = y - seen.moved })) f g
              ∙ ap₂ (moved_as given) w.keeps w.moves;
          holds-nodes = m.node_store w.order w.found w.keeps;
          holds-entries = m.entry_store w.order w.found w.keeps;
          holds-slots = m.slot_store;
          cleared = m.cleared ∙ ap zeros k;
        })

  pub kept-room : {a : Result Seen Fault} (s₁ : List ℕ) {seen : Seen} → Answers (stores nodes entries bound limit) (visit_from (stores nodes entries bound limit) node) a s₁ → a ≡ Ok seen
      → length s₁ ≡ length s → (Movable nodes entries s₁ bound limit seen.kept seen.moved) × (bound * node_width ≤ length nodes)
  kept-room {a} s₁ {seen} v p k =
      let t = stores nodes entries bound limit in
      let w = all_was t (visit_from t node) a s₁ seen v p in
      let f = w.found in
      let order : take seen.kept s₁ ≡ w.order = ap (λ m. take m s₁) w.keeps ∙ f.ordered in (
        record {
          fewer = omega (arith, w.keeps, f.nodes);
          all = w.moves ∙ length-chains t w.order ∙ ap (total nodes) (sym order);
          within = omega (arith, w.moves, f.entries);
          room = omega (arith, l.room);
          held = l.held_entries;
          most = l.most;
          most_entries = l.most_entries;
        },
        l.held,
      )

  pub kept-few : {a : Result Seen Fault} (s₁ : List ℕ) {seen : Seen} → Answers (stores nodes entries bound limit) (visit_from (stores nodes entries bound limit) node) a s₁ → a ≡ Ok seen
      → (seen.kept ≤ node_capacity (length nodes)) × (seen.moved ≤ entry_capacity (length entries))
  kept-few {a} s₁ {seen} v p =
      let t = stores nodes entries bound limit in
      let w = all_was t (visit_from t node) a s₁ seen v p in
      let f = w.found in
      omega (arith, w.keeps, w.moves, f.nodes, f.entries, l.held, l.held_entries, l.most, l.most_entries)

-- The tests before it.

outcome-short : (t : Stores) (used_nodes used_entries node size : ℕ) → size < need used_nodes used_entries → outcome t used_nodes used_entries node size ≡ refuses NoRoom size
unfolding outcome
outcome-short t used_nodes used_entries node size h = rw (lt-ltb size (need used_nodes used_entries) h)

pub outcome-enough : (t : Stores) (used_nodes used_entries node size : ℕ) → need used_nodes used_entries ≤ size → outcome t used_nodes used_entries node size ≡ by_visit (visit_from t node)
unfolding outcome
outcome-enough t used_nodes used_entries node size h = rw (le-ltb size (need used_nodes used_entries) h)

module _ (nodes entries slots stack : List ℕ) {stack₁ : List ℕ} (used_nodes used_entries node : ℕ) (z : stack₁ ≡ zeros (length stack)) where
  abbrev lending : Stores
  lending = lent_stores nodes entries used_nodes used_entries

  -- what a move leaves is what the outcome leaves
  by_outcome : {o : Outcome} {r : Result declared.Kept Fault} {nodes' entries' slots' stack' : List ℕ} → outcome lending used_nodes used_entries node (length stack) ≡ o
      → Keeps (held_by o lending slots) (length stack) r nodes' entries' slots' stack'
      → Keeps (kept_of nodes entries slots used_nodes used_entries node (length stack)) (length stack) r nodes' entries' slots' stack'
  unfolding kept_of
  by_outcome {o} {r} {nodes'} {entries'} {slots'} {stack'} e k =
      subst (λ x. Keeps (held_by x lending slots) (length stack) r nodes' entries' slots' stack') (sym e) k

  pub keep_short : {n : ℕ} {r : Result declared.Kept Fault} → n ≡ need used_nodes used_entries → length stack < n → r ≡ refused NoRoom (length stack)
      → Keeps (kept_of nodes entries slots used_nodes used_entries node (length stack)) (length stack) r nodes entries slots stack₁
  keep_short {n} {r} p h e =
      by_outcome (outcome-short lending used_nodes used_entries node (length stack) (omega arith))
      (record { answer = e; holds-nodes = refl; holds-entries = refl; holds-slots = refl; cleared = z })

  pub keep_limits : {n bound limit : ℕ} → n ≡ need used_nodes used_entries → n ≤ length stack → bound ≡ nodes_in nodes used_nodes → limit ≡ entries_in entries used_entries
      → Limits nodes entries stack₁ bound limit
  keep_limits p h b d =
      let size : length stack₁ ≡ length stack = ap length z ∙ length-replicate (length stack) 0 in
      record {
        cleared = z ∙ ap zeros (sym size);
        room = omega arith;
        held = omega arith;
        held_entries = omega arith;
        most = omega arith;
        most_entries = omega arith;
      }

  pub keep_done : {n bound limit : ℕ} {r : Result declared.Kept Fault} {nodes' entries' slots' stack' : List ℕ} → n ≡ need used_nodes used_entries → n ≤ length stack
      → bound ≡ nodes_in nodes used_nodes → limit ≡ entries_in entries used_entries → Keeps (within nodes entries slots bound limit node) (length stack₁) r nodes' entries' slots' stack'
      → Keeps (kept_of nodes entries slots used_nodes used_entries node (length stack)) (length stack) r nodes' entries' slots' stack'
  keep_done {n} {bound} {limit} {r} {nodes'} {entries'} {slots'} {stack'} p h f i k =
      let size : length stack₁ ≡ length stack = ap length z ∙ length-replicate (length stack) 0 in
      by_outcome (outcome-enough lending used_nodes used_entries node (length stack) (omega arith))
      (subst (λ m. Keeps (within nodes entries slots (nodes_in nodes used_nodes) (entries_in entries used_entries) node) m r nodes' entries' slots' stack') size
      (subst (λ b. Keeps (within nodes entries slots b (entries_in entries used_entries) node) (length stack₁) r nodes' entries' slots' stack') f
      (subst (λ b. Keeps (within nodes entries slots bound b node) (length stack₁) r nodes' entries' slots' stack') i k)))
