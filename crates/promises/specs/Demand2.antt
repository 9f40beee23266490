-- Demand 2 of the request, over the calls of a reader and a writer: "Any value read is written back and reads as the same value, if nesting,
-- bytes, nodes and entries fit once sharing is written out, and its code objects keep 01's name order." So of every node that was read; the
-- root is node 0. What a value is, what it takes and what stores mean stands in `meaning`; "the same value" is equality there.
use Rattle.std.specs.Prelude.{◌≡◌, ℕ, ◌≤◌, ◌<◌, min, length, take}
use Rattle.std.proofs.Math.Option.{some}
use Rattle.refusals.specs.Limits.{most_bytes, most_nesting}
use Rattle.clearing.specs.Lent.{padded}
use Rattle.grammar.specs.Reading.{gives}
use Rattle.grammar.specs.State.{node_capacity, entry_capacity}
use Rattle.grammar.specs.Answer.{Counts}
use Rattle.writing.specs.Answer.{most_output}
use Rattle.meaning.specs.Value.{Value}
use Rattle.meaning.specs.Canonical.{canonical}
use Rattle.meaning.specs.Extent.{depth_of, nodes_of, entries_of, counts_for}
use Rattle.meaning.specs.Order.{InOrder}
use Rattle.meaning.specs.Meaning.{value_of, tables_after}
use Rattle.promises.specs.Calls.{Reader, Writer}

-- The call accepts with these counts, and a node of the stores that it leaves means the value.
pub record ReadAs (R : Reader) (c : R.Calls) (counts : Counts) (n : ℕ) (v : Value) : Type 0 where
  pub accepts : (R.ends c).answer ≡ gives counts
  pub means : (allowance : ℕ) → depth_of v ≤ allowance → value_of allowance (tables_after (R.input c) (R.ends c) counts) n ≡ some v

-- A node that a call of the reader left: any one of those that it counted.
pub record NodeRead (R : Reader) : Type 0 where
  pub call : R.Calls
  pub counts : Counts
  pub accepted : (R.ends call).answer ≡ gives counts
  pub node : ℕ
  pub used : node < counts.nodes

-- The call is given what that call of the reader left, its input, its stores and its counts, and the node.
pub record Hands (R : Reader) (r : NodeRead R) (W : Writer) (w : W.Calls) : Type 0 where
  pub tables : W.tables w ≡ tables_after (R.input r.call) (R.ends r.call) r.counts
  pub node : W.root w ≡ r.node

-- what fits in a call of the writer, and in one of the reader
pub record WriteFits (v : Value) (W : Writer) (w : W.Calls) : Type 0 where
  pub nesting : depth_of v ≤ min (W.nesting w) most_nesting
  pub bytes : length (canonical v) ≤ min (W.room w) most_output

pub record ReadFits (v : Value) (R : Reader) (c : R.Calls) : Type 0 where
  pub nesting : depth_of v ≤ min (R.nesting c) most_nesting
  pub bytes : length (canonical v) ≤ most_bytes
  pub nodes : nodes_of v ≤ node_capacity (R.nodes c)
  pub entries : entries_of v ≤ entry_capacity (R.entries c)

-- The value's bytes and no others: their number is the answer, and behind them the output is zero.
pub record WrittenBack (v : Value) (W : Writer) (w : W.Calls) : Type 0 where
  pub answer : W.answer w ≡ gives (length (canonical v))
  pub output : W.output w ≡ padded (W.room w) (canonical v)

pub record Demand2 (R : Reader) (W : Writer) : Type 0 where
  pub value : NodeRead R → Value
  pub read : (r : NodeRead R) → ReadAs R r.call r.counts r.node (value r)
  pub back : (r : NodeRead R) (w : W.Calls) → Hands R r W w → InOrder (value r) → WriteFits (value r) W w → WrittenBack (value r) W w
  -- what is written of the node reads, as a whole, as what the node means
  pub again : (r : NodeRead R) (w : W.Calls) → Hands R r W w → InOrder (value r) → WriteFits (value r) W w
      → (c : R.Calls) → R.input c ≡ take (length (canonical (value r))) (W.output w) → ReadFits (value r) R c → ReadAs R c (counts_for (value r)) 0 (value r)
  -- the root is always there
  pub root : (c : R.Calls) (counts : Counts) → (R.ends c).answer ≡ gives counts → 0 < counts.nodes

-- the root of what a call read
abbrev pub root_read : {R : Reader} {W : Writer} → Demand2 R W → (c : R.Calls) (counts : Counts) → (R.ends c).answer ≡ gives counts → NodeRead R
root_read d c counts e = record { call = c; counts = counts; accepted = e; node = 0; used = d.root c counts e }
