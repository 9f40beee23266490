-- What a move answers and leaves. 02, K11; a refused move leaves nodes, entries and slots as they were.
use Rattle.std.specs.Prelude.{◌≡◌, ℕ, ◌+◌, ◌-◌, ◌*◌, ◌≤◌, min, cond, List, length, ltb, Result, Ok}
use Rattle.refusals.specs.Limits.{most_records}
use Rattle.refusals.specs.Faults.{refused}
use Rattle.refusals.specs.declared.Fault.{Fault}
use Rattle.refusals.specs.declared.Refusal.{Refusal}
use Rattle.refusals.specs.declared.Refusal.TheVariants.{BadTable, NoRoom}
use Rattle.clearing.specs.Lent.{zeros}
use Rattle.grammar.specs.State.{node_width, entry_width, node_capacity, entry_capacity}
use Rattle.grammar.specs.Record.{nodes_in, entries_in}
use Rattle.keepvisit.specs.Visit.{Stores, stores, Visited, bad, visited, visit_from, chains}
use Rattle.keepmove.specs.Moved.{nodes_after, entries_after}
use Rattle.keep.specs.declared.Kept as declared

-- "the visit stack's need is a definition of the counts used"
abbrev pub need : (used_nodes used_entries : ℕ) → ℕ
need used_nodes used_entries = min used_nodes most_records * 3 + min used_entries most_records * 2

-- the stores, with the numbers "beyond those used or the store"
abbrev pub lent_stores : (nodes entries : List ℕ) → (used_nodes used_entries : ℕ) → Stores
lent_stores nodes entries used_nodes used_entries = stores nodes entries (nodes_in nodes used_nodes) (entries_in entries used_entries)

-- what is found before anything is written
pub data Outcome : Type 0 where
  refuses : (why : Refusal) (place : ℕ) → Outcome
  moves : (order : List ℕ) → Outcome

abbrev pub by_visit : Visited → Outcome
by_visit (bad place) = refuses BadTable place
by_visit (visited order) = moves order

-- "Refusals: a bad chain .. or number 16; visit stack short 17", 17 first
unfoldable pub outcome : Stores → (used_nodes used_entries node size : ℕ) → Outcome
outcome t used_nodes used_entries node size = cond (ltb size (need used_nodes used_entries)) (refuses NoRoom size) (by_visit (visit_from t node))

-- "the reported room freed is what a new read can claim": each capacity less what is kept
abbrev pub moved_as : Stores → (nodes entries : ℕ) → Result declared.Kept Fault
moved_as t nodes entries =
    Ok
    record {
      nodes = nodes;
      entries = entries;
      freenodes = node_capacity (length t.nodes) - nodes;
      freeentries = entry_capacity (length t.entries) - entries;
    }

-- answer and contents as one value
pub record Held : Type 0 where
  pub answer : Result declared.Kept Fault
  pub nodes : List ℕ
  pub entries : List ℕ
  pub slots : List ℕ

-- refused, "number and place, no counts"; "a refused move leaves the value as it was"; "slots are cleared"
abbrev pub held_by : Outcome → Stores → (slots : List ℕ) → Held
held_by (refuses why place) t slots = record { answer = refused why place; nodes = t.nodes; entries = t.entries; slots = slots }
held_by (moves order) t slots =
    record {
      answer = moved_as t (length order) (length (chains t order));
      nodes = nodes_after t.nodes order;
      entries = entries_after t order;
      slots = zeros (length slots);
    }

unfoldable pub kept_of : (nodes entries slots : List ℕ) → (used_nodes used_entries node size : ℕ) → Held
kept_of nodes entries slots used_nodes used_entries node size =
    let t = lent_stores nodes entries used_nodes used_entries in
    held_by (outcome t used_nodes used_entries node size) t slots

-- The contract: the answer, what the three stores hold, and the stack, which is cleared either way.
pub record Keeps (o : Held) (size : ℕ) (r : Result declared.Kept Fault) (nodes entries slots stack : List ℕ) : Type 0 where
  pub answer : r ≡ o.answer
  pub holds-nodes : nodes ≡ o.nodes
  pub holds-entries : entries ≡ o.entries
  pub holds-slots : slots ≡ o.slots
  pub cleared : stack ≡ zeros size

-- what is left to do behind the test of the stack, the limits being given
abbrev pub within : (nodes entries slots : List ℕ) → (bound limit node : ℕ) → Held
within nodes entries slots bound limit node = held_by (by_visit (visit_from (stores nodes entries bound limit) node)) (stores nodes entries bound limit) slots

-- the limits are those of the stores, and the scratch is cleared and has the room
pub record Limits (nodes entries s : List ℕ) (bound limit : ℕ) : Type 0 where
  pub cleared : s ≡ zeros (length s)
  pub room : bound * 3 + limit * 2 ≤ length s
  pub held : bound * node_width ≤ length nodes
  pub held_entries : limit * entry_width ≤ length entries
  pub most : bound ≤ most_records
  pub most_entries : limit ≤ most_records
