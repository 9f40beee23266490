-- What 02's K11 promises of a move that is accepted. `proofs/Promised` has the theorem.
use Rattle.std.specs.Prelude.{◌≡◌, ℕ, ◌+◌, ◌-◌, ◌≤◌, ◌<◌, min, true, List, map, length, get_or}
use Rattle.std.proofs.Math.Option.{some}
use Rattle.refusals.specs.Limits.{most_bytes, most_nesting}
use Rattle.grammar.specs.Input.{Bytes}
use Rattle.grammar.specs.Reading.{gives}
use Rattle.grammar.specs.State.{node_at, node_capacity, entry_capacity}
use Rattle.grammar.specs.Record.{Tables, tables_of}
use Rattle.writing.specs.Answer.{most_output, written}
use Rattle.meaning.specs.Value.{Value}
use Rattle.meaning.specs.Canonical.{canonical}
use Rattle.meaning.specs.Order.{InOrder}
use Rattle.meaning.specs.Meaning.{value_of}
use Rattle.keepvisit.specs.Visit.{Stores, stores, visited, member, children, chains, place_in, visit_from}
use Rattle.keepmove.specs.Moved.{renewed, run, nodes_after, entries_after}
use Rattle.keep.specs.Kept.{lent_stores, moves, outcome, need, held_by, kept_of}

-- the stores after the move, with the counts that it answers
abbrev pub moved_stores : (nodes entries : List ℕ) → (used_nodes used_entries : ℕ) → (order : List ℕ) → Stores
moved_stores nodes entries used_nodes used_entries order =
    let t = lent_stores nodes entries used_nodes used_entries in
    stores (nodes_after nodes order) (entries_after t order) (length order) (length (chains t order))

abbrev pub moved_tables : (input nodes entries : List ℕ) → (used_nodes used_entries : ℕ) → (order : List ℕ) → Tables
moved_tables input nodes entries used_nodes used_entries order =
    let t = moved_stores nodes entries used_nodes used_entries order in
    tables_of input t.nodes t.entries t.node_limit t.entry_limit

-- The order is that of first visit; a node is kept where it is in it.
pub record Moved (nodes entries : List ℕ) (used_nodes used_entries root : ℕ) (order : List ℕ) : Type 0 where
  -- "The kept value is the same": over any input and to any allowance, the root being node 0 then
  pub same_value :
      (input : List ℕ) (allowance : ℕ)
      → value_of allowance (moved_tables input nodes entries used_nodes used_entries order) 0 ≡ value_of allowance (tables_of input nodes entries used_nodes used_entries) root
  -- and so is the value of every node that is kept
  pub same_values :
      (input : List ℕ) (allowance n : ℕ) → member n order ≡ true
      → value_of allowance (moved_tables input nodes entries used_nodes used_entries order) (place_in order n) ≡ value_of allowance (tables_of input nodes entries used_nodes used_entries) n
  -- and so is its writing, accepted or refused for room, where its value is found within the nesting
  pub same_writing :
      (input : List ℕ) → Bytes input → length input ≤ most_bytes → (nesting room n : ℕ) (v : Value) → member n order ≡ true
      → value_of (min nesting most_nesting) (tables_of input nodes entries used_nodes used_entries) n ≡ some v
      → written (moved_tables input nodes entries used_nodes used_entries order) (place_in order n) nesting room ≡ written (tables_of input nodes entries used_nodes used_entries) n nesting room
  -- demand 2's round trip, of the root that is kept: it is written as its value's canonical bytes; that these read as the value is demand 2's own theorem
  pub written_back :
      (input : List ℕ) → Bytes input → length input ≤ most_bytes → (nesting room : ℕ) (v : Value)
      → value_of (min nesting most_nesting) (tables_of input nodes entries used_nodes used_entries) root ≡ some v → InOrder v → length (canonical v) ≤ min room most_output
      → written (moved_tables input nodes entries used_nodes used_entries order) 0 nesting room ≡ gives (canonical v)
  -- "Kept nodes keep the input they name": a kept node keeps every number but its first entry's
  pub same_node :
      (n : ℕ) → member n order ≡ true
      → node_at (nodes_after nodes order) (place_in order n) ≡ renewed (node_at nodes n) (node_at (nodes_after nodes order) (place_in order n)).first
  -- the children of a kept node are kept, in their order
  pub same_children :
      (n : ℕ) → member n order ≡ true
      → children (moved_stores nodes entries used_nodes used_entries order) (place_in order n) ≡ map (place_in order) (children (lent_stores nodes entries used_nodes used_entries) n)
  -- "shared nodes stay shared", and no others are
  pub shared : (n m : ℕ) → member n order ≡ true → member m order ≡ true → place_in order n ≡ place_in order m → n ≡ m
  -- "in order of first visit from that node"
  pub numbered : (n : ℕ) → member n order ≡ true → (place_in order n < length order) × (get_or order (place_in order n) 0 ≡ n)
  pub root_first : place_in order root ≡ 0
  -- "depth first, entries container by container in that order": visited there, the nodes are 0, 1, 2 and so on, and so are their entries
  pub in_order : visit_from (moved_stores nodes entries used_nodes used_entries order) 0 ≡ visited (run 0 (length order))
  pub entries_in-order :
      chains (moved_stores nodes entries used_nodes used_entries order) (run 0 (length order)) ≡ run 0 (length (chains (lent_stores nodes entries used_nodes used_entries) order))
  -- so that a second move, of node 0 with the counts answered, gives what the first gave
  pub again :
      (slots : List ℕ) (size : ℕ) → need (length order) (length (chains (lent_stores nodes entries used_nodes used_entries) order)) ≤ size
      → kept_of (nodes_after nodes order) (entries_after (lent_stores nodes entries used_nodes used_entries) order) slots
      (length order) (length (chains (lent_stores nodes entries used_nodes used_entries) order)) 0 size
      ≡ held_by (moves order) (lent_stores nodes entries used_nodes used_entries) slots
  -- "the reported room freed is what a new read can claim": with what is kept it is the capacity
  pub room-nodes : length order + (node_capacity (length nodes) - length order) ≡ node_capacity (length nodes)
  pub room-entries :
      length (chains (lent_stores nodes entries used_nodes used_entries) order) + (entry_capacity (length entries) - length (chains (lent_stores nodes entries used_nodes used_entries) order))
      ≡ entry_capacity (length entries)

pub record Promised : Type 0 where
  pub moved :
      (nodes entries : List ℕ) (used_nodes used_entries root size : ℕ) (order : List ℕ)
      → outcome (lent_stores nodes entries used_nodes used_entries) used_nodes used_entries root size ≡ moves order → Moved nodes entries used_nodes used_entries root order
