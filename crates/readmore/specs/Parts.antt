-- No export and no promise rests on this page.
-- What each part of an append leaves: contracts of inner functions.
use Rattle.std.specs.Prelude.{◌≡◌, ℕ, ◌+◌, ◌*◌, ◌≤◌, cond, List, map, length, ltb}
use Rattle.refusals.specs.Numbers.{accepted, no_node, no_entry, input_too_long}
use Rattle.refusals.specs.Limits.{most_bytes}
use Rattle.clearing.specs.Lent.{zeros, padded}
use Rattle.grammar.specs.Reading.{Answer, gives, stops}
use Rattle.grammar.specs.Room.{run}
use Rattle.grammar.specs.State.{Node, Entry, State, node_width, entry_width, node_cells, entry_cells, node_capacity, entry_capacity}
use Rattle.grammar.specs.Answer.{plain, rooms_of, answered, slots_held, Outcome}
use Rattle.stores.specs.Written.{Keeps}
use Rattle.raising.specs.Appended.{appended_node, appended_entry, appended_slot}
use Rattle.raising.specs.Raised.{NodesRaise, EntriesRaise, SlotsRaise}
use Rattle.readmore.specs.More.{Kept, room_left, behind, kept_part}

-- the refusal before reading, or that there is none
abbrev pub turned_away : (bytes nodes entries : ℕ) → Kept → ℕ
turned_away bytes nodes entries k =
    cond (ltb most_bytes bytes) input_too_long (cond (ltb nodes k.nodes) no_node (cond (ltb entries k.entries) no_entry accepted))

-- and what holds where there is none
pub record Fitting (bytes nodes entries : ℕ) (k : Kept) : Type 0 where
  pub small : bytes ≤ most_bytes
  pub in_nodes : k.nodes ≤ node_capacity nodes
  pub in_entries : k.entries ≤ entry_capacity entries

-- the kept part as it was, all else zero
pub record Refused (nodes entries slots : List ℕ) (k : Kept) (nodes' entries' slots' : List ℕ) : Type 0 where
  pub kept-nodes : nodes' ≡ kept_part (k.nodes * node_width) nodes
  pub kept-entries : entries' ≡ kept_part (k.entries * entry_width) entries
  pub no_slots : slots' ≡ zeros (length slots)

-- the plain reading behind the kept part, before its numbers are raised
abbrev pub nodes_behind : Kept → List ℕ → Answer (ℕ × State) → List ℕ
nodes_behind k store (gives r) = behind (k.nodes * node_width) store (node_cells r.1.nodes)
nodes_behind k store (stops number place) = kept_part (k.nodes * node_width) store

abbrev pub entries_behind : Kept → List ℕ → Answer (ℕ × State) → List ℕ
entries_behind k store (gives r) = behind (k.entries * entry_width) store (entry_cells r.1.entries)
entries_behind k store (stops number place) = kept_part (k.entries * entry_width) store

abbrev pub laid_behind : Kept → (nodes entries : List ℕ) → (slots : ℕ) → Answer (ℕ × State) → Outcome
laid_behind k nodes entries slots a =
    record { answer = answered a; nodes = nodes_behind k nodes a; entries = entries_behind k entries a; slots = slots_held slots a }

unfoldable pub unraised : (s nodes entries : List ℕ) → (slots nesting : ℕ) → Kept → Outcome
unraised s nodes entries slots nesting k =
    laid_behind k nodes entries slots (run (room_left (rooms_of (length nodes) (length entries) slots nesting) k) (plain s))

-- so many new records, which are in the stores
pub record Counted : Type 0 where
  pub nodes : ℕ
  pub entries : ℕ
  pub slots : ℕ

abbrev pub counting : (nodes entries slots : ℕ) → Counted
counting nodes entries slots = record { nodes = nodes; entries = entries; slots = slots }

pub record Room (nodes entries slots : List ℕ) (k : Kept) (new : Counted) : Type 0 where
  pub for_nodes : k.nodes * node_width + new.nodes * node_width ≤ length nodes
  pub for_entries : k.entries * entry_width + new.entries * entry_width ≤ length entries
  pub for_slots : new.slots ≤ length slots

-- what stands behind the kept part is raised
pub record Raised (nodes entries slots : List ℕ) (k : Kept) (new : Counted) (nodes' entries' slots' : List ℕ) : Type 0 where
  pub exact-nodes : (store : List ℕ) (ns : List Node) → k.nodes * node_width + length ns * node_width ≤ length store
      → nodes ≡ behind (k.nodes * node_width) store (node_cells ns) → length ns ≡ new.nodes → NodesRaise k.entries ns
      → nodes' ≡ behind (k.nodes * node_width) store (node_cells (map (appended_node k.entries k.number) ns))
  pub exact-entries : (store : List ℕ) (es : List Entry) → k.entries * entry_width + length es * entry_width ≤ length store
      → entries ≡ behind (k.entries * entry_width) store (entry_cells es) → length es ≡ new.entries → EntriesRaise k.nodes k.entries es
      → entries' ≡ behind (k.entries * entry_width) store (entry_cells (map (appended_entry k.nodes k.entries) es))
  pub exact-slots : (ss : List ℕ) → Keeps slots ss → length ss ≡ new.slots → SlotsRaise k.nodes ss
      → slots' ≡ padded (length slots) (map (appended_slot k.nodes) ss)
