-- What is promised of the input that nodes name. The record test does not look at it, so that it is a theorem: which input to hand over with a
-- root is told by the root's own number. `proofs/Promised` has the theorem.
use Rattle.std.specs.Prelude.{◌≡◌, ℕ, ◌<◌, List}
use Rattle.grammar.specs.Reading.{gives}
use Rattle.grammar.specs.State.{node_at}
use Rattle.grammar.specs.Answer.{Counts, Outcome, read_of}
use Rattle.keepvisit.specs.Visit.{Stores, stores, Reaches}
use Rattle.keep.specs.Kept.{lent_stores, moves, outcome}
use Rattle.carried.specs.Promised.{moved_stores}
use Rattle.readmore.specs.More.{more_of}
use Rattle.oneinput.specs.Inputs.{OneInput}

-- the stores that a reading or an append left, with the counts that it answered
abbrev pub stores_after : Outcome → Counts → Stores
stores_after o c = stores o.nodes o.entries c.nodes c.entries

pub record Promised : Type 0 where
  -- all that is reached from a node names its input
  pub reached : (t : Stores) → OneInput t → (root n : ℕ) → root < t.node_limit → Reaches t root n → (node_at t.nodes n).input ≡ (node_at t.nodes root).input
  -- it is so of what a reading left, where every node's number is 0
  pub read :
      (s : List ℕ) (nodes entries slots nesting : ℕ) (c : Counts) → (read_of s nodes entries slots nesting).answer ≡ gives c
      → OneInput (stores_after (read_of s nodes entries slots nesting) c)
  pub read_zero :
      (s : List ℕ) (nodes entries slots nesting : ℕ) (c : Counts) → (read_of s nodes entries slots nesting).answer ≡ gives c
      → (n : ℕ) → n < c.nodes → (node_at (read_of s nodes entries slots nesting).nodes n).input ≡ 0
  -- it stays so where a node is moved to the front ..
  pub moved :
      (nodes entries : List ℕ) (used_nodes used_entries root size : ℕ) (order : List ℕ)
      → outcome (lent_stores nodes entries used_nodes used_entries) used_nodes used_entries root size ≡ moves order
      → OneInput (lent_stores nodes entries used_nodes used_entries) → OneInput (moved_stores nodes entries used_nodes used_entries order)
  -- .. and where a new read is appended
  pub appended :
      (s nodes entries : List ℕ) (slots nesting kept_nodes kept_entries number : ℕ) (c : Counts) → (more_of s nodes entries slots nesting kept_nodes kept_entries number).answer ≡ gives c
      → OneInput (stores nodes entries kept_nodes kept_entries) → OneInput (stores_after (more_of s nodes entries slots nesting kept_nodes kept_entries number) c)
