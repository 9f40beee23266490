-- The whole answer to the reading of an input: a function of the input, the lengths of the three stores and the nesting, and the exact
-- contents of the three stores, whether it is accepted or refused.
use Rattle.std.specs.Prelude.{ℕ, min, cond, List, length, ltb}
use Rattle.refusals.specs.Numbers.{input_too_long}
use Rattle.refusals.specs.Limits.{most_bytes, most_nesting}
use Rattle.clearing.specs.Lent.{zeros, padded}
use Rattle.grammar.specs.Reading.{Reading, Answer, gives, stops}
use Rattle.grammar.specs.Room.{Rooms, run}
use Rattle.grammar.specs.State.{State, start, node_cells, entry_cells, node_capacity, entry_capacity, slot_capacity}
use Rattle.grammar.specs.Steps.{value}

-- The plain reading of the whole input.
unfoldable pub plain : List ℕ → Reading (ℕ × State)
plain s = value (length s) s 0 start

-- 01, 'What is lent and what is kept': "Each capacity counts as at most 1,048,576 and nesting as at most 2,000."
abbrev pub rooms_of : (nodes entries slots nesting : ℕ) → Rooms
rooms_of nodes entries slots nesting =
    record {
      levels = min nesting most_nesting;
      nodes = node_capacity nodes;
      entries = entry_capacity entries;
      slots = slot_capacity slots;
    }

-- "Input: at most 16,777,216 bytes"; "InputTooLong, tested before all", at 0.
unfoldable pub reading : List ℕ → (nodes entries slots nesting : ℕ) → Answer (ℕ × State)
reading s nodes entries slots nesting =
    cond (ltb most_bytes (length s)) (stops input_too_long 0) (run (rooms_of nodes entries slots nesting) (plain s))

-- "The answer gives bytes consumed and the three counts used"; refused, it "holds number and place, no counts".
pub record Counts : Type 0 where
  pub consumed : ℕ
  pub nodes : ℕ
  pub entries : ℕ
  pub slots : ℕ

abbrev pub counts_of : State → Counts
counts_of st = record { consumed = st.at; nodes = length st.nodes; entries = length st.entries; slots = length st.slots }

abbrev pub answered : Answer (ℕ × State) → Answer Counts
answered (gives r) = gives (counts_of r.1)
answered (stops number place) = stops number place

-- "every store lent for writing is all zero. On acceptance, all past what was written is zero."
abbrev pub nodes_held : ℕ → Answer (ℕ × State) → List ℕ
nodes_held cells (gives r) = padded cells (node_cells r.1.nodes)
nodes_held cells (stops number place) = zeros cells

abbrev pub entries_held : ℕ → Answer (ℕ × State) → List ℕ
entries_held cells (gives r) = padded cells (entry_cells r.1.entries)
entries_held cells (stops number place) = zeros cells

abbrev pub slots_held : ℕ → Answer (ℕ × State) → List ℕ
slots_held cells (gives r) = padded cells r.1.slots
slots_held cells (stops number place) = zeros cells

-- answer and contents as one value
pub record Outcome : Type 0 where
  pub answer : Answer Counts
  pub nodes : List ℕ
  pub entries : List ℕ
  pub slots : List ℕ

abbrev pub outcome_of : (nodes entries slots : ℕ) → Answer (ℕ × State) → Outcome
outcome_of nodes entries slots a =
    record { answer = answered a; nodes = nodes_held nodes a; entries = entries_held entries a; slots = slots_held slots a }

unfoldable pub read_of : List ℕ → (nodes entries slots nesting : ℕ) → Outcome
read_of s nodes entries slots nesting = outcome_of nodes entries slots (reading s nodes entries slots nesting)
