-- What 02's K11 promises of an accepted move, from the laws of the visit and of the moved records. Assumes nothing.
use mathlib.Core.Path.{◌≡◌, sym, ap, subst, ◌∙◌}
use Prim.Native.Nat.{ℕ, min}
use native.Mathlib.Omega.{arith}
use mathlib.Core.Bool.{Bool, true, false, cond}
use mathlib.Core.Option.{some}
use mathlib.Core.List.{List, []}
use lib.ListN.{length}
use lib.Dec.{ltb}
use Rattle.refusals.specs.Limits.{most_nesting}
use Rattle.refusals.specs.declared.Refusal.TheVariants.{NoRoom}
use Rattle.grammar.specs.State.{Node, node_at}
use Rattle.grammar.specs.Record.{tables_of}
use Rattle.meaning.specs.Meaning.{value_of}
use Rattle.meaning.proofs.AnyStores.{found_in-order_is_written}
use Rattle.keepvisit.specs.Visit.{Stores, Visited, bad, visited, member, chains, place_in, visit_from}
use Rattle.keepvisit.proofs.Closed.{kept-root, root_first}
use Rattle.keepmove.specs.Moved.{renewed, nodes_after}
use Rattle.keepmove.proofs.Same.{same_node, same_children, shared, place-below, place_at}
use Rattle.keepmove.proofs.Again.{place-root, in_order, entries_in-order}
use Rattle.keep.specs.Kept.{lent_stores, refuses, moves, by_visit, outcome, need}
use Rattle.carried.specs.Promised as promised
use Rattle.carried.specs.Promised.{Promised, moved_tables, moved_stores}
use Rattle.carried.proofs.Values.{value-kept}
use Rattle.carried.proofs.Again.{moved-again}
use Rattle.carried.proofs.Writing.{written-alike}
use Rattle.carried.proofs.Moved.{move_carries, few-nodes, few-entries}

-- a move that is accepted is that of a visit
pub visit_of : (t : Stores) (used_nodes used_entries root size : ℕ) (order : List ℕ) → outcome t used_nodes used_entries root size ≡ moves order → visit_from t root ≡ visited order
unfolding outcome
visit_of t used_nodes used_entries root size order h = go (ltb size (need used_nodes used_entries)) (visit_from t root) h
  where
    go : (b : Bool) (v : Visited) → cond b (refuses NoRoom size) (by_visit v) ≡ moves order → v ≡ visited order
    go true v e = absurd (let z : ◌≡◌ {A = ℕ} 0 1 = cc in omega arith)
    go false (bad place) e = absurd (let z : ◌≡◌ {A = ℕ} 0 1 = cc in omega arith)
    go false (visited o) e = let same : o ≡ order = cc in ap visited same

-- a record with another first entry, and that entry
renewed_by : (m n : Node) (first : ℕ) → m ≡ renewed n first → m ≡ renewed n m.first
renewed_by m n first e = e ∙ ap (λ k. renewed n k) (sym (ap (λ r. r.first) e))

module _ (nodes entries : List ℕ) (used_nodes used_entries root : ℕ) (order : List ℕ) (e : visit_from (lent_stores nodes entries used_nodes used_entries) root ≡ visited order) where
  abbrev lent : Stores
  lent = lent_stores nodes entries used_nodes used_entries

  values : (input : List ℕ) (allowance n : ℕ) → member n order ≡ true
      → value_of allowance (moved_tables input nodes entries used_nodes used_entries order) (place_in order n) ≡ value_of allowance (tables_of input nodes entries used_nodes used_entries) n
  values input allowance n k = value-kept (move_carries input nodes entries used_nodes used_entries root order e) allowance n k

  abbrev own : member root order ≡ true
  own = kept-root lent root order e

  abbrev front : place_in order root ≡ 0
  front = place-root root order (root_first lent root order e)

  move_keeps : promised.Moved nodes entries used_nodes used_entries root order
  move_keeps =
      record {
        same_value = λ input allowance.
            subst (λ n. value_of allowance (moved_tables input nodes entries used_nodes used_entries order) n ≡ value_of allowance (tables_of input nodes entries used_nodes used_entries) root) front
            (values input allowance root own);
        same_values = values;
        same_writing = λ input bytes small nesting room n v k h.
            written-alike (moved_tables input nodes entries used_nodes used_entries order) (tables_of input nodes entries used_nodes used_entries) bytes bytes small small (place_in order n) n nesting room v
            (values input (min nesting most_nesting) n k ∙ h) h;
        written_back = λ input bytes small nesting room v h o f.
            found_in-order_is_written (moved_tables input nodes entries used_nodes used_entries order) bytes small 0 nesting room v
            (subst (λ n. value_of (min nesting most_nesting) (moved_tables input nodes entries used_nodes used_entries order) n ≡ some v) front (values input (min nesting most_nesting) root own ∙ h)) o f;
        same_node = λ n k. renewed_by (node_at (nodes_after nodes order) (place_in order n)) (node_at nodes n) _ (same_node lent order n k);
        same_children = λ n k. same_children lent order n k (length order) (length (chains lent order));
        shared = shared order;
        numbered = λ n k. (place-below order n k, place_at order n k);
        root_first = front;
        in_order = in_order lent root order e;
        entries_in-order = entries_in-order lent root order e;
        again = moved-again nodes entries used_nodes used_entries root order e;
        room-nodes = omega (arith, few-nodes [] nodes entries used_nodes used_entries root order e);
        room-entries = omega (arith, few-entries [] nodes entries used_nodes used_entries root order e);
      }

pub moves_keep_their_promises : Promised
moves_keep_their_promises =
    record {
      moved = λ nodes entries used_nodes used_entries root size order h.
          move_keeps nodes entries used_nodes used_entries root order (visit_of (lent_stores nodes entries used_nodes used_entries) used_nodes used_entries root size order h);
    }
