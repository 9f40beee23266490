-- A second move, of node 0 with the counts that the first answered, gives what the first gave. Assumes nothing.
use mathlib.Core.Path.{◌≡◌, refl, ap, ap₂, ◌∙◌}
use Prim.Native.Nat.{ℕ, zero, suc, ◌+◌, ◌-◌, ◌≤◌}
use mathlib.Core.List.{List, []}
use lib.ListN.{length}
use Rattle.clearing.specs.Lent.{zeros}
use Rattle.std.specs.Prelude.{Result, Ok}
use Rattle.refusals.specs.declared.Fault.{Fault}
use Rattle.grammar.specs.State.{node_capacity, entry_capacity}
use Rattle.keepvisit.specs.Visit.{Stores, stores, visited, chains, visit_from}
use Rattle.keepmove.specs.Moved.{run, nodes_after, entries_after}
use Rattle.keepmove.proofs.Again.{in_order, entries_in-order, still_nodes, still_entries}
use Rattle.keep.specs.declared.Kept as declared
use Rattle.keep.specs.Kept.{lent_stores, need, moves, by_visit, outcome, moved_as, Held, held_by, kept_of}
use Rattle.keep.proofs.Keeping.{outcome-enough}
use Rattle.carried.specs.Promised.{moved_stores}
use Rattle.carried.proofs.Moved.{long-nodes, long-entries, in_nodes, in_entries}

length_run : (at count : ℕ) → length (run at count) ≡ count
unfolding run
length_run at zero = refl
length_run at (suc more) = ap suc (length_run (at + 1) more)

-- the contents of a move, by its answer's numbers and the two stores
abbrev holding : (slots : List ℕ) → (a : Result declared.Kept Fault) → (nodes entries : List ℕ) → Held
holding slots a nodes entries = record { answer = a; nodes = nodes; entries = entries; slots = zeros (length slots) }

-- counts and the room freed
abbrev counting : (kept moved long_nodes long_entries : ℕ) → Result declared.Kept Fault
counting kept moved long_nodes long_entries =
    Ok
    record {
      nodes = kept;
      entries = moved;
      freenodes = node_capacity long_nodes - kept;
      freeentries = entry_capacity long_entries - moved;
    }

module _ (nodes entries : List ℕ) (used_nodes used_entries root : ℕ) (order : List ℕ) (e : visit_from (lent_stores nodes entries used_nodes used_entries) root ≡ visited order) where
  abbrev lent : Stores
  lent = lent_stores nodes entries used_nodes used_entries

  abbrev after : Stores
  after = moved_stores nodes entries used_nodes used_entries order

  abbrev moved : ℕ
  moved = length (chains lent order)

  same_counts : counting (length (run 0 (length order))) (length (chains after (run 0 (length order)))) (length after.nodes) (length after.entries) ≡ counting (length order) moved (length nodes) (length entries)
  same_counts =
      ap₂ (λ k m. counting k m (length after.nodes) (length after.entries)) (length_run 0 (length order)) (ap length (entries_in-order lent root order e) ∙ length_run 0 moved)
      ∙ ap₂ (counting (length order) moved) (long-nodes [] nodes entries used_nodes used_entries root order e) (long-entries [] nodes entries used_nodes used_entries root order e)

  same_held : (slots : List ℕ) → held_by (moves (run 0 (length order))) after slots ≡ held_by (moves order) lent slots
  same_held slots =
      ap (λ a. holding slots a (nodes_after after.nodes (run 0 (length order))) (entries_after after (run 0 (length order)))) same_counts
      ∙ ap₂ (holding slots (moved_as lent (length order) moved))
      (still_nodes lent root order e (long-nodes [] nodes entries used_nodes used_entries root order e)) (still_entries lent root order e (long-entries [] nodes entries used_nodes used_entries root order e))

  -- the numbers answered are those of the stores
  same_lent : lent_stores after.nodes after.entries (length order) moved ≡ after
  same_lent = ap₂ (stores after.nodes after.entries) (in_nodes [] nodes entries used_nodes used_entries root order e) (in_entries [] nodes entries used_nodes used_entries root order e)

  pub moved-again : (slots : List ℕ) (size : ℕ) → need (length order) moved ≤ size
      → kept_of after.nodes after.entries slots (length order) moved 0 size ≡ held_by (moves order) lent slots
  unfolding kept_of
  moved-again slots size h =
      ap (λ t. held_by (outcome t (length order) moved 0 size) t slots) same_lent
      ∙ ap (λ o. held_by o after slots) (outcome-enough after (length order) moved 0 size h ∙ ap by_visit (in_order lent root order e))
      ∙ same_held slots
