-- What is promised of a span where the answer is yes: "the span read alone gives the same value once each index in it is lowered by the slots
-- reserved before the node". 02, K7.
use Rattle.std.specs.Prelude.{◌≡◌, ℕ, ◌+◌, ◌≤◌, ◌<◌, List, length, get_or}
use Rattle.std.proofs.Math.Option.{some}
use Rattle.grammar.specs.Reading.{gives}
use Rattle.grammar.specs.Room.{plainly}
use Rattle.grammar.specs.State.{State, blank, unlinked}
use Rattle.grammar.specs.Answer.{plain, Counts, counts_of, read_of}
use Rattle.meaning.specs.Value.{Value}
use Rattle.meaning.specs.Extent.{depth_of}
use Rattle.meaning.specs.Meaning.{value_of, tables_after}
use Rattle.shifts.specs.Shift.{Shift, raised_node, raised_entry, raised_slot}
use Rattle.shifts.specs.Lower.{alone_of}
use Rattle.alone.specs.Question.{start_of, end_of, slots_before}

-- the span alone, each index in it lowered
unfoldable pub span_alone : List ℕ → State → ℕ → List ℕ
span_alone s st n = alone_of s (slots_before st (start_of st n)) (start_of st n) (end_of st n) st.met

-- In any room that accepts the input, a node of the stores that are left means the value, once the allowance is enough.
abbrev pub ReadsAs : List ℕ → ℕ → Value → Type 0
ReadsAs s n v =
    (nodes entries slots nesting : ℕ) (c : Counts) → (read_of s nodes entries slots nesting).answer ≡ gives c
    → (allowance : ℕ) → depth_of v ≤ allowance → value_of allowance (tables_after s (read_of s nodes entries slots nesting) c) n ≡ some v

-- the node's header stands in the span
pub record In (st : State) (n m : ℕ) : Type 0 where
  pub from : start_of st n ≤ start_of st m
  pub to : start_of st m < end_of st n

-- The plain reading accepts the span alone and consumes all of it. Its nodes, entries and slots are those of the span, their places and
-- numbers raised by what stood before it (`behind`), and it gives the same value.
pub record Alone (s : List ℕ) (st : State) (n : ℕ) : Type 0 where
  pub left : State
  pub accepts : plainly (plain (span_alone s st n)) ≡ gives (0, left)
  -- and so does the reader, in every room that takes the whole input
  pub in_room_lem : (nodes entries slots nesting : ℕ) (c : Counts) → (read_of s nodes entries slots nesting).answer ≡ gives c
      → (read_of (span_alone s st n) nodes entries slots nesting).answer ≡ gives (counts_of left)
  pub consumed : left.at ≡ length (span_alone s st n)
  pub length_is : start_of st n + length (span_alone s st n) ≡ end_of st n
  pub behind : Shift
  pub places : behind.places ≡ start_of st n
  pub before : length behind.nodes ≡ n
  pub nodes : (i : ℕ) → i < length left.nodes → get_or st.nodes (n + i) blank ≡ raised_node behind (get_or left.nodes i blank)
  pub entries : (i : ℕ) → i < length left.entries → get_or st.entries (length behind.entries + i) unlinked ≡ raised_entry behind (get_or left.entries i unlinked)
  pub slots : (i : ℕ) → i < length left.slots → get_or st.slots (slots_before st (start_of st n) + i) 0 ≡ raised_slot behind (get_or left.slots i 0)
  -- the nodes of the span are these and no others
  pub inside : (i : ℕ) → i < length left.nodes → In st n (n + i)
  pub no_other : (m : ℕ) → m < length st.nodes → In st n m → (n ≤ m) × (m < n + length left.nodes)
  pub value : Value
  pub whole : ReadsAs s n value
  pub alone : ReadsAs (span_alone s st n) 0 value
