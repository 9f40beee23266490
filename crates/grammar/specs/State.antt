-- What a reading has kept: nodes, entries and slots, and the numbers that the three stores hold for them.
-- 01, 'What is lent and what is kept'.
use Rattle.std.specs.Prelude.{ℕ, ◌+◌, ◌*◌, ◌/◌, min, List, [], ◌∷◌, get_or}
use Rattle.refusals.specs.Limits.{most_records}

-- "Node: [..] type letter without the flag, place, size, first entry, count", and by 02, K7, "a sixth number [..]: the place after its last
-- byte, set when complete [..]"; by K11 "a seventh number", of the input that it was read from, "and capacity becomes length / 7".
pub record Node : Type 0 where
  pub letter : ℕ
  pub place : ℕ
  pub size : ℕ
  pub first : ℕ
  pub count : ℕ
  pub end : ℕ
  pub input : ℕ

abbrev pub node_width : ℕ
node_width = 7

-- "Entry: two numbers: node, next entry. Capacity is length / 2."
pub record Entry : Type 0 where
  pub child : ℕ
  pub next : ℕ

abbrev pub entry_width : ℕ
entry_width = 2

-- a node that is claimed and not yet complete, and what stands where there is no node and no entry
abbrev pub blank : Node
blank = record { letter = 0; place = 0; size = 0; first = 0; count = 0; end = 0; input = 0 }

abbrev pub unlinked : Entry
unlinked = record { child = 0; next = 0 }

-- Bytes read so far; "Nodes are numbered from 0 as their headers come. Entries are numbered as children finish."
-- "Slot: one number: 0 while open, else node + 1." In no store: the places of the reference indices met so far, the last first; K7 asks of them.
pub record State : Type 0 where
  pub at : ℕ
  pub nodes : List Node
  pub entries : List Entry
  pub slots : List ℕ
  pub met : List ℕ

abbrev pub start : State
start = record { at = 0; nodes = []; entries = []; slots = []; met = [] }

-- the same, read up to another place
abbrev pub moved_to : ℕ → State → State
moved_to at st = record { at = at; nodes = st.nodes; entries = st.entries; slots = st.slots; met = st.met }

-- the same, behind a reference: its index stands behind its header
abbrev pub referred : ℕ → State → State
referred at st = record { at = at; nodes = st.nodes; entries = st.entries; slots = st.slots; met = (st.at + 1) ∷ st.met }

-- The records' numbers, in order.
abbrev pub node_cells : List Node → List ℕ
node_cells [] = []
node_cells (n ∷ ns) = n.letter ∷ n.place ∷ n.size ∷ n.first ∷ n.count ∷ n.end ∷ n.input ∷ node_cells ns

abbrev pub entry_cells : List Entry → List ℕ
entry_cells [] = []
entry_cells (e ∷ es) = e.child ∷ e.next ∷ entry_cells es

-- The records of any store, also of one that no reading made.
abbrev pub node_at : List ℕ → ℕ → Node
node_at store n =
    record {
      letter = get_or store (n * node_width) 0;
      place = get_or store (n * node_width + 1) 0;
      size = get_or store (n * node_width + 2) 0;
      first = get_or store (n * node_width + 3) 0;
      count = get_or store (n * node_width + 4) 0;
      end = get_or store (n * node_width + 5) 0;
      input = get_or store (n * node_width + 6) 0;
    }

abbrev pub entry_at : List ℕ → ℕ → Entry
entry_at store e = record { child = get_or store (e * entry_width) 0; next = get_or store (e * entry_width + 1) 0 }

-- How many records a store of so many numbers can hold: "Each capacity counts as at most 1,048,576".
abbrev pub node_capacity : ℕ → ℕ
node_capacity cells = min (cells / node_width) most_records

abbrev pub entry_capacity : ℕ → ℕ
entry_capacity cells = min (cells / entry_width) most_records

abbrev pub slot_capacity : ℕ → ℕ
slot_capacity cells = min cells most_records
