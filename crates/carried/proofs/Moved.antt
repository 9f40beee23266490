-- A move carries its stores: the nodes visited, by their numbers in the order of first visit. Assumes nothing.
use mathlib.Core.Path.{◌≡◌, refl, sym, ap, subst, ◌∙◌}
use Prim.Native.Nat.{ℕ, ◌≤◌, ◌<◌, min}
use native.Mathlib.Omega.{arith}
use mathlib.Core.Bool.{true}
use mathlib.Core.Option.{some}
use mathlib.Core.List.{List, [], ◌∷◌}
use lib.ListN.{length}
use Rattle.clearing.proofs.Laws.{length-padded}
use Rattle.grammar.specs.State.{node_at, node_cells, entry_cells, node_capacity, entry_capacity}
use Rattle.grammar.specs.Record.{Tables, tables_of, nodes_in, entries_in}
use Rattle.grammar.proofs.Contents.{length-entry_cells}
use Rattle.keepvisit.specs.Visit.{Stores, visited, member, children, chains, place_in, visit_from}
use Rattle.keepvisit.proofs.Members.{fresh-most, member-cons_same}
use Rattle.keepvisit.proofs.Closed.{kept-children, member_right}
use Rattle.keepvisit.proofs.Distinct.{within, chain-among, visited-once}
use Rattle.keepmove.specs.Moved.{moved_nodes, moved_entries, nodes_after, entries_after}
use Rattle.keepmove.proofs.Laying.{length-moved_nodes, length-chains}
use Rattle.keepmove.proofs.Same.{same_node, same_children, chain-inside, place-below, length-children, length-moved_entries}
use Rattle.keep.specs.Kept.{lent_stores}
use Rattle.carried.proofs.Carried.{bare, AllKept, Carried}
use Rattle.carried.proofs.Bridge.{chain-linked}

all_kept : (order cs : List ℕ) → ((c : ℕ) → member c cs ≡ true → member c order ≡ true) → AllKept (λ n. member n order ≡ true) cs
unfolding member
all_kept order [] h = tt
all_kept order (c ∷ cs) h = (h c (member-cons_same c cs), all_kept order cs (λ d m. h d (member_right d (c ∷ []) cs m)))

module _ (input nodes entries : List ℕ) (used_nodes used_entries root : ℕ) (order : List ℕ) (e : visit_from (lent_stores nodes entries used_nodes used_entries) root ≡ visited order) where
  abbrev lent : Stores
  lent = lent_stores nodes entries used_nodes used_entries

  abbrev moved : ℕ
  moved = length (chains lent order)

  pub few-nodes : length order ≤ nodes_in nodes used_nodes
  few-nodes = fresh-most lent.node_limit order (visited-once lent root order e).nodes

  pub few-entries : moved ≤ entries_in entries used_entries
  few-entries = fresh-most lent.entry_limit (chains lent order) (visited-once lent root order e).entries

  pub long-nodes : length (nodes_after nodes order) ≡ length nodes
  long-nodes = length-padded (length nodes) (node_cells (moved_nodes nodes 0 order)) (omega (arith, length-moved_nodes nodes 0 order, few-nodes))

  pub long-entries : length (entries_after lent order) ≡ length entries
  long-entries =
      length-padded (length entries) (entry_cells (moved_entries lent order 0 order))
      (omega (arith, length-entry_cells (moved_entries lent order 0 order), length-moved_entries lent order 0 order, length-chains lent order, few-entries))

  pub in_nodes : nodes_in (nodes_after nodes order) (length order) ≡ length order
  in_nodes = ap (λ k. min (length order) (node_capacity k)) long-nodes ∙ omega (arith, few-nodes)

  pub in_entries : entries_in (entries_after lent order) moved ≡ moved
  in_entries = ap (λ k. min moved (entry_capacity k)) long-entries ∙ omega (arith, few-entries)

  abbrev before : Tables
  before = tables_of input nodes entries used_nodes used_entries

  abbrev after : Tables
  after = tables_of input (nodes_after nodes order) (entries_after lent order) (length order) moved

  pub move_carries : Carried before after (λ n. member n order ≡ true) (place_in order)
  move_carries =
      record {
        input = refl;
        from = λ n k. within lent.node_limit n order (visited-once lent root order e).nodes k;
        to = λ n k. subst (λ m. place_in order n < m) (sym in_nodes) (place-below order n k);
        node = λ n k. ap bare (same_node lent order n k);
        kids = λ n k. children lent n;
        chained = λ n k.
            chain-linked before (node_at nodes n).count (node_at nodes n).first
            (λ a m. within lent.entry_limit a (chains lent order) (visited-once lent root order e).entries (chain-among lent order n a k m));
        closed = λ n k. all_kept order (children lent n) (λ c m. kept-children lent root order e n k c m);
        counted = λ n k. length-children lent n;
        carried = λ n k.
            chain-linked after (node_at after.nodes (place_in order n)).count (node_at after.nodes (place_in order n)).first
            (λ a m. subst (λ l. a < l) (sym in_entries) (subst (λ l. a < l) (sym (length-chains lent order)) (chain-inside lent order n (length order) moved a k m)))
            ∙ ap (λ l. some l) (same_children lent order n k (length order) moved);
      }
