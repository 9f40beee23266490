-- 02, K7: what is promised of the bytes of any node that an accepted reading left, over the definition that the export's contract cites.
-- `proofs/Promised` is the theorem.
use Rattle.std.specs.Prelude.{◌≡◌, ℕ, ◌<◌, true, List, get_or}
use Rattle.grammar.specs.Input.{Bytes}
use Rattle.grammar.specs.Reading.{gives}
use Rattle.grammar.specs.Letters.{letter_of}
use Rattle.grammar.specs.Room.{plainly}
use Rattle.grammar.specs.State.{State, blank}
use Rattle.grammar.specs.Answer.{plain, Counts, read_of}
use Rattle.grammar.specs.Record.{node_of}
use Rattle.meaning.specs.Meaning.{tables_after}
use Rattle.nodespan.specs.Span.{span_of}
use Rattle.alone.specs.Question.{start_of, end_of, slots_before, names_own}
use Rattle.alone.specs.Alone.{Alone}

-- The node's bytes, from the stores that a reading in some room left: where its header stands, where it ends, how many slots were reserved
-- before it, and the answer to the question by the plain reading.
pub record Spanned (s : List ℕ) (nodes entries slots nesting : ℕ) (c : Counts) (n : ℕ) : Type 0 where
  pub root : ℕ
  pub left : State
  pub read : plainly (plain s) ≡ gives (root, left)
  pub told : span_of (tables_after s (read_of s nodes entries slots nesting) c) n
      ≡ gives (record { start = start_of left n; end = end_of left n; closed = names_own s left n; slots_before = slots_before left (start_of left n) })
  -- "the place after its last byte, set when complete": the node's sixth number
  pub sixth : (node_of (tables_after s (read_of s nodes entries slots nesting) c) n).end ≡ end_of left n
  -- K11's seventh number, that of the input: a reading by itself has 0
  pub seventh : (node_of (tables_after s (read_of s nodes entries slots nesting) c) n).input ≡ 0
  pub header : letter_of (get_or s (start_of left n) 0) ≡ (get_or left.nodes n blank).letter
  -- "On yes, the span read alone gives the same value once each index in it is lowered by the slots reserved before the node."
  pub alone : names_own s left n ≡ true → Alone s left n

pub record Promised : Type 0 where
  pub every_node : (s : List ℕ) → Bytes s → (nodes entries slots nesting : ℕ) (c : Counts) → (read_of s nodes entries slots nesting).answer ≡ gives c
      → (n : ℕ) → n < c.nodes → Spanned s nodes entries slots nesting c n
