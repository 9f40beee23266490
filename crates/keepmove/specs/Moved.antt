-- The stores after a move, from the order of first visit.
-- 02, K11: "to the front of the stores, in order of first visit from that node, depth first, entries container by container in that order,
-- and zero the rest".
use Rattle.std.specs.Prelude.{ℕ, zero, suc, ◌+◌, List, [], ◌∷◌, ◌++◌, length}
use Rattle.refusals.specs.Limits.{nothing}
use Rattle.clearing.specs.Lent.{padded}
use Rattle.grammar.specs.State.{Node, Entry, node_at, node_cells, entry_cells}
use Rattle.keepvisit.specs.Visit.{Stores, children, place_in}

-- "A moved node of count 0 gets no first entry", another the first of its entries' new numbers
abbrev pub first_of : (count at : ℕ) → ℕ
first_of zero at = nothing
first_of (suc more) at = at

-- "Kept nodes keep the input they name": every number but the first entry's stays.
abbrev pub renewed : Node → ℕ → Node
renewed n first =
    record {
      letter = n.letter;
      place = n.place;
      size = n.size;
      first = first;
      count = n.count;
      end = n.end;
      input = n.input;
    }

-- the nodes in that order, the entries of the first beginning at `at`
unfoldable pub moved_nodes : (nodes : List ℕ) → (at : ℕ) → List ℕ → List Node
moved_nodes nodes at [] = []
moved_nodes nodes at (n ∷ ns) =
    renewed (node_at nodes n) (first_of (node_at nodes n).count at) ∷ moved_nodes nodes (at + (node_at nodes n).count) ns

-- one container's entries, the first of them at `at`: "the last counted entry no next"
unfoldable pub relinked : (order : List ℕ) → (at : ℕ) → List ℕ → List Entry
relinked order at [] = []
relinked order at (c ∷ []) = record { child = place_in order c; next = nothing } ∷ []
relinked order at (c ∷ d ∷ cs) = record { child = place_in order c; next = at + 1 } ∷ relinked order (at + 1) (d ∷ cs)

unfoldable pub moved_entries : Stores → (order : List ℕ) → (at : ℕ) → List ℕ → List Entry
moved_entries t order at [] = []
moved_entries t order at (n ∷ ns) =
    relinked order at (children t n) ++ moved_entries t order (at + (node_at t.nodes n).count) ns

-- so many numbers one behind another, from one on
unfoldable pub run : (at count : ℕ) → List ℕ
run at zero = []
run at (suc more) = at ∷ run (at + 1) more

-- The stores after the move: "to the front of the stores .. and zero the rest".
abbrev pub nodes_after : (nodes order : List ℕ) → List ℕ
nodes_after nodes order = padded (length nodes) (node_cells (moved_nodes nodes 0 order))

abbrev pub entries_after : Stores → List ℕ → List ℕ
entries_after t order = padded (length t.entries) (entry_cells (moved_entries t order 0 order))
