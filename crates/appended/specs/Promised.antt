-- What 02's K11 promises of a new read behind kept nodes and entries, over the definition that the export's contract cites.
-- `proofs/Promised` has the theorem.
use Rattle.std.specs.Prelude.{◌≡◌, ℕ, ◌+◌, ◌*◌, ◌≤◌, ◌<◌, List, [], ◌++◌, map, length, Ok}
use Rattle.std.proofs.Math.Option.{some}
use Rattle.refusals.specs.Numbers.{no_node, no_entry, input_too_long}
use Rattle.refusals.specs.Limits.{most_bytes}
use Rattle.clearing.specs.Lent.{zeros, padded}
use Rattle.grammar.specs.Input.{Bytes}
use Rattle.grammar.specs.Reading.{Kind, level, node, entry, slot, gives, stops}
use Rattle.grammar.specs.Room.{Rooms, room_for, number_of, run, plainly, Claim}
use Rattle.grammar.specs.State.{Node, Entry, State, node_width, entry_width, node_cells, entry_cells, node_at, entry_at}
use Rattle.grammar.specs.Steps.{value}
use Rattle.grammar.specs.Answer.{plain, rooms_of, Counts, counts_of, Outcome, read_of}
use Rattle.grammar.specs.Counted.{claims_of, needed, Over}
use Rattle.grammar.specs.Record.{tables_of}
use Rattle.shifts.specs.Shift.{Shift, raised_value, lifted_a}
use Rattle.meaning.specs.Value.{Value}
use Rattle.meaning.specs.Meaning.{value_of, tables_after}
use Rattle.keep.specs.declared.Kept as declared
use Rattle.keep.specs.Kept.{lent_stores, moves, outcome, Held, kept_of}
use Rattle.raising.specs.Appended.{relabelled, appended_node, appended_entry}
use Rattle.readmore.specs.More.{Kept, keeping, room_left, appending, behind, kept_part, appended_to, more_of}

abbrev pub more_by : (s nodes entries : List ℕ) → (slots nesting : ℕ) → Kept → Outcome
more_by s nodes entries slots nesting k = more_of s nodes entries slots nesting k.nodes k.entries k.number

-- the room lent in all, and that it holds what is kept
abbrev pub lent_room : (nodes entries : List ℕ) → (slots nesting : ℕ) → Rooms
lent_room nodes entries slots nesting = rooms_of (length nodes) (length entries) slots nesting

pub record Holds (R : Rooms) (k : Kept) : Type 0 where
  pub in_nodes : k.nodes ≤ R.nodes
  pub in_entries : k.entries ≤ R.entries

-- "demand 3 then counts kept plus new": what is kept of a kind, and the plain reading's claims counted so
abbrev pub kept_for : Kept → Kind → ℕ
kept_for k level = 0
kept_for k node = k.nodes
kept_for k entry = k.entries
kept_for k slot = 0

abbrev pub counted : Kept → Claim → Claim
counted k c = record { kind = c.kind; need = kept_for k c.kind + c.need; place = c.place }

abbrev pub AllFourWith : Kept → List ℕ → Rooms → Type 0
AllFourWith k s R = (kind : Kind) → kept_for k kind + needed s kind ≤ room_for R kind

-- How an append ends. All four counts, kept plus new, fit: the plain reading's answer, appended. Otherwise, and then only, a claim does not
-- fit: the first such claim is refused with the number of its kind, at its place.
pub data EndsIn (s nodes entries : List ℕ) (slots nesting : ℕ) (k : Kept) : Type 0 where
  fits : AllFourWith k s (lent_room nodes entries slots nesting) → more_by s nodes entries slots nesting k ≡ appended_to k nodes entries slots (plainly (plain s))
      → EndsIn s nodes entries slots nesting k
  short : (AllFourWith k s (lent_room nodes entries slots nesting) → ⊥) → (o : Over (lent_room nodes entries slots nesting) (map (counted k) (claims_of s)))
      → more_by s nodes entries slots nesting k ≡ appended_to k nodes entries slots (stops (number_of o.first.kind) o.first.place) → EndsIn s nodes entries slots nesting k

-- "New reads append to the kept nodes": the grammar's own reading, begun with nodes and entries that are there already. "Slots of a new read
-- begin at 0 again."
abbrev pub kept_state : List Node → List Entry → State
kept_state ns es = record { at = 0; nodes = ns; entries = es; slots = []; met = [] }

abbrev pub by_kept : List Node → List Entry → Shift
by_kept ns es = record { levels = 0; places = 0; nodes = ns; entries = es; met = [] }

-- The same reading, accepted: "the root is node kept_nodes", and what it has behind the kept records is what the stores hold there, but that the
-- nodes name the input.
pub record Continued (s nodes entries : List ℕ) (slots nesting : ℕ) (ns : List Node) (es : List Entry) (number : ℕ) (r : ℕ × State) : Type 0 where
  pub root : r.0 ≡ length ns
  pub new_nodes : List Node
  pub new-entries : List Entry
  pub nodes_end : r.1.nodes ≡ ns ++ new_nodes
  pub entries_end : r.1.entries ≡ es ++ new-entries
  pub answer : (more_of s nodes entries slots nesting (length ns) (length es) number).answer ≡ gives (counts_of r.1)
  pub in_nodes : Bytes s
      → (more_of s nodes entries slots nesting (length ns) (length es) number).nodes ≡ behind (length ns * node_width) nodes (node_cells (map (λ n. relabelled n.first number n) new_nodes))
  pub in_entries : (more_of s nodes entries slots nesting (length ns) (length es) number).entries ≡ behind (length es * entry_width) entries (entry_cells new-entries)
  pub in_slots : (more_of s nodes entries slots nesting (length ns) (length es) number).slots ≡ padded slots r.1.slots

-- An append that is accepted, beside the reading of the same input alone in the same stores.
pub record Appended (s nodes entries : List ℕ) (slots nesting : ℕ) (k : Kept) (c : Counts) : Type 0 where
  pub alone : Counts
  pub read-alone : (read_of s (length nodes) (length entries) slots nesting).answer ≡ gives alone
  -- counts kept plus new
  pub same_end : c.consumed ≡ alone.consumed
  pub count-nodes : c.nodes ≡ k.nodes + alone.nodes
  pub count_entries : c.entries ≡ k.entries + alone.entries
  pub count-slots : c.slots ≡ alone.slots
  -- "its node and entry numbers are the plain reading's raised by those kept", "appended nodes take an input number"
  pub node-raised : (n : ℕ) → n < alone.nodes
      → node_at (more_by s nodes entries slots nesting k).nodes (k.nodes + n) ≡ appended_node k.entries k.number (node_at (read_of s (length nodes) (length entries) slots nesting).nodes n)
  pub entry-raised : (e : ℕ) → e < alone.entries
      → entry_at (more_by s nodes entries slots nesting k).entries (k.entries + e) ≡ appended_entry k.nodes k.entries (entry_at (read_of s (length nodes) (length entries) slots nesting).entries e)
  pub numbered : (n : ℕ) → k.nodes ≤ n → n < c.nodes → (node_at (more_by s nodes entries slots nesting k).nodes n).input ≡ k.number
  -- no entry of it names a kept node
  pub apart : (e : ℕ) → k.entries ≤ e → e < c.entries → k.nodes ≤ (entry_at (more_by s nodes entries slots nesting k).entries e).child
  -- "Kept nodes keep the input they name", and all their other numbers
  pub kept-node : (n : ℕ) → n < k.nodes → node_at (more_by s nodes entries slots nesting k).nodes n ≡ node_at nodes n
  pub kept_entry : (e : ℕ) → e < k.entries → entry_at (more_by s nodes entries slots nesting k).entries e ≡ entry_at entries e
  -- the value is that of the input read alone; what is kept has its value as before, over its own input
  pub same_value : (allowance n : ℕ) → n < alone.nodes
      → value_of allowance (tables_after s (more_by s nodes entries slots nesting k) c) (k.nodes + n) ≡ value_of allowance (tables_after s (read_of s (length nodes) (length entries) slots nesting) alone) n
  pub kept-value : (input : List ℕ) (allowance n : ℕ) (v : Value) → value_of allowance (tables_of input nodes entries k.nodes k.entries) n ≡ some v
      → value_of allowance (tables_after input (more_by s nodes entries slots nesting k) c) n ≡ some v

-- An append that is refused: "keeps the kept part and zeroes the rest".
pub record Refused (nodes entries : List ℕ) (slots : ℕ) (k : Kept) (o : Outcome) : Type 0 where
  pub kept-nodes : o.nodes ≡ kept_part (k.nodes * node_width) nodes
  pub kept-entries : o.entries ≡ kept_part (k.entries * entry_width) entries
  pub no_slots : o.slots ≡ zeros slots

-- "the reported room freed is what a new read can claim": behind a move the stores hold what is kept, and this is the room that is left.
pub record Freed (o : Held) (slots nesting number : ℕ) : Type 0 where
  pub told : declared.Kept
  pub accepted : o.answer ≡ Ok told
  pub holds : Holds (lent_room o.nodes o.entries slots nesting) (keeping told.nodes told.entries number)
  pub left_nodes_lem : (room_left (lent_room o.nodes o.entries slots nesting) (keeping told.nodes told.entries number)).nodes ≡ told.freenodes
  pub left_entries_lem : (room_left (lent_room o.nodes o.entries slots nesting) (keeping told.nodes told.entries number)).entries ≡ told.freeentries

pub record Promised : Type 0 where
  -- where nothing is kept, it is the reading, which gives number 0
  pub nothing-kept : (s nodes entries : List ℕ) (slots nesting : ℕ) → more_of s nodes entries slots nesting 0 0 0 ≡ read_of s (length nodes) (length entries) slots nesting
  -- "Kept nodes above the lent capacity are 11, then kept entries 12, at 0, after 14 and before reading."
  pub too_long : (s nodes entries : List ℕ) (slots nesting : ℕ) (k : Kept) → most_bytes < length s → (more_by s nodes entries slots nesting k).answer ≡ stops input_too_long 0
  pub no_node_lem : (s nodes entries : List ℕ) (slots nesting : ℕ) (k : Kept) → length s ≤ most_bytes → (lent_room nodes entries slots nesting).nodes < k.nodes
      → (more_by s nodes entries slots nesting k).answer ≡ stops no_node 0
  pub no_entry_lem : (s nodes entries : List ℕ) (slots nesting : ℕ) (k : Kept) → length s ≤ most_bytes → k.nodes ≤ (lent_room nodes entries slots nesting).nodes
      → (lent_room nodes entries slots nesting).entries < k.entries → (more_by s nodes entries slots nesting k).answer ≡ stops no_entry 0
  -- "demand 3 then counts kept plus new"
  pub exact_or_first : (s nodes entries : List ℕ) (slots nesting : ℕ) (k : Kept) → length s ≤ most_bytes → Holds (lent_room nodes entries slots nesting) k
      → EndsIn s nodes entries slots nesting k
  -- whatever is kept, the reading that goes on behind it is the append's, with the numbers raised
  pub goes_on : (s nodes entries : List ℕ) (slots nesting : ℕ) (ns : List Node) (es : List Entry) (number : ℕ) → length s ≤ most_bytes
      → Holds (lent_room nodes entries slots nesting) (keeping (length ns) (length es) number)
      → run (lent_room nodes entries slots nesting) (value (length s) s 0 (kept_state ns es))
      ≡ lifted_a (by_kept ns es) (raised_value (by_kept ns es)) (appending s (lent_room nodes entries slots nesting) (keeping (length ns) (length es) number))
  pub continued : (s nodes entries : List ℕ) (slots nesting : ℕ) (ns : List Node) (es : List Entry) (number : ℕ) → length s ≤ most_bytes
      → Holds (lent_room nodes entries slots nesting) (keeping (length ns) (length es) number) → (r : ℕ × State)
      → run (lent_room nodes entries slots nesting) (value (length s) s 0 (kept_state ns es)) ≡ gives r → Continued s nodes entries slots nesting ns es number r
  pub appended : (s nodes entries : List ℕ) (slots nesting : ℕ) (k : Kept) (c : Counts) → (more_by s nodes entries slots nesting k).answer ≡ gives c → Appended s nodes entries slots nesting k c
  pub refused : (s nodes entries : List ℕ) (slots nesting : ℕ) (k : Kept) (number place : ℕ) → (more_by s nodes entries slots nesting k).answer ≡ stops number place
      → Refused nodes entries slots k (more_by s nodes entries slots nesting k)
  pub freed : (nodes entries slots : List ℕ) (used_nodes used_entries root size : ℕ) (order : List ℕ)
      → outcome (lent_stores nodes entries used_nodes used_entries) used_nodes used_entries root size ≡ moves order
      → (lent nesting number : ℕ) → Freed (kept_of nodes entries slots used_nodes used_entries root size) lent nesting number
