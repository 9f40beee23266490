-- A new read behind kept nodes and entries: its whole answer and the exact contents of the three stores, whether it is accepted or refused.
-- 02, K11: "New reads append to the kept nodes from these counts".
use Rattle.std.specs.Prelude.{ℕ, ◌+◌, ◌-◌, ◌*◌, cond, List, ◌++◌, map, length, take, ltb}
use Rattle.refusals.specs.Numbers.{no_node, no_entry, input_too_long}
use Rattle.refusals.specs.Limits.{most_bytes}
use Rattle.clearing.specs.Lent.{zeros, padded}
use Rattle.grammar.specs.Reading.{Answer, gives, stops}
use Rattle.grammar.specs.Room.{Rooms, run}
use Rattle.grammar.specs.State.{State, node_width, entry_width, node_cells, entry_cells}
use Rattle.grammar.specs.Answer.{plain, rooms_of, Counts, Outcome}
use Rattle.raising.specs.Appended.{appended_node, appended_entry, appended_slot}

-- what is kept, the nodes and the entries, and the number of the input that is read
pub record Kept : Type 0 where
  pub nodes : ℕ
  pub entries : ℕ
  pub number : ℕ

abbrev pub keeping : (nodes entries number : ℕ) → Kept
keeping nodes entries number = record { nodes = nodes; entries = entries; number = number }

-- "demand 3 then counts kept plus new": the room that is left
abbrev pub room_left : Rooms → Kept → Rooms
room_left R k = record { levels = R.levels; nodes = R.nodes - k.nodes; entries = R.entries - k.entries; slots = R.slots }

-- "Kept nodes above the lent capacity are 11, then kept entries 12, at 0, after 14 and before reading."
unfoldable pub appending : List ℕ → Rooms → Kept → Answer (ℕ × State)
appending s R k =
    cond (ltb most_bytes (length s)) (stops input_too_long 0)
    (cond (ltb R.nodes k.nodes) (stops no_node 0)
    (cond (ltb R.entries k.entries) (stops no_entry 0)
    (run (room_left R k) (plain s))))

-- counts kept plus new
abbrev pub counts_with : Kept → State → Counts
counts_with k st =
    record { consumed = st.at; nodes = k.nodes + length st.nodes; entries = k.entries + length st.entries; slots = length st.slots }

abbrev pub answered_with : Kept → Answer (ℕ × State) → Answer Counts
answered_with k (gives r) = gives (counts_with k r.1)
answered_with k (stops number place) = stops number place

-- the numbers of a store that stay, what was written behind them, and zeros; and "a refused append keeps the kept part and zeroes the rest"
abbrev pub behind : (stay : ℕ) → (store written : List ℕ) → List ℕ
behind stay store written = take stay store ++ padded (length store - stay) written

abbrev pub kept_part : (stay : ℕ) → (store : List ℕ) → List ℕ
kept_part stay store = take stay store ++ zeros (length store - stay)

abbrev pub nodes_with : Kept → List ℕ → Answer (ℕ × State) → List ℕ
nodes_with k store (gives r) = behind (k.nodes * node_width) store (node_cells (map (appended_node k.entries k.number) r.1.nodes))
nodes_with k store (stops number place) = kept_part (k.nodes * node_width) store

abbrev pub entries_with : Kept → List ℕ → Answer (ℕ × State) → List ℕ
entries_with k store (gives r) = behind (k.entries * entry_width) store (entry_cells (map (appended_entry k.nodes k.entries) r.1.entries))
entries_with k store (stops number place) = kept_part (k.entries * entry_width) store

-- "Slots of a new read begin at 0 again."
abbrev pub slots_with : Kept → (size : ℕ) → Answer (ℕ × State) → List ℕ
slots_with k size (gives r) = padded size (map (appended_slot k.nodes) r.1.slots)
slots_with k size (stops number place) = zeros size

-- answer and contents as one value
abbrev pub appended_to : Kept → (nodes entries : List ℕ) → (slots : ℕ) → Answer (ℕ × State) → Outcome
appended_to k nodes entries slots a =
    record { answer = answered_with k a; nodes = nodes_with k nodes a; entries = entries_with k entries a; slots = slots_with k slots a }

-- the input, what the stores of nodes and of entries hold, the length of the store of slots, and the nesting
unfoldable pub more_of : (s nodes entries : List ℕ) → (slots nesting kept_nodes kept_entries number : ℕ) → Outcome
more_of s nodes entries slots nesting kept_nodes kept_entries number =
    let k = keeping kept_nodes kept_entries number in
    appended_to k nodes entries slots (appending s (rooms_of (length nodes) (length entries) slots nesting) k)
