-- What demand 2 asks before it speaks of a call, in 01's own terms: whatever just fits is enough. "if nesting, bytes, nodes and entries fit
-- once sharing is written out". (That its order of names asks no more stands in meaning's Codes, and of demand 3's four counts and refusals of
-- room in grammar's Exactness and Fitting.)
use Rattle.std.specs.Prelude.{◌≤◌, ◌*◌, length}
use Rattle.refusals.specs.Limits.{most_bytes, most_nesting, most_records}
use Rattle.grammar.specs.State.{node_width, entry_width}
use Rattle.writing.specs.Answer.{most_output}
use Rattle.meaning.specs.Value.{Value}
use Rattle.meaning.specs.Canonical.{canonical}
use Rattle.meaning.specs.Extent.{depth_of, nodes_of, entries_of}
use Rattle.promises.specs.Calls.{Reader, Writer}
use Rattle.promises.specs.Demand2.{WriteFits, ReadFits}

-- nesting and room as much as the value takes, and no more than 01 counts
pub record JustWrites (v : Value) (W : Writer) (w : W.Calls) : Type 0 where
  pub deep : depth_of v ≤ W.nesting w
  pub not_too_deep : depth_of v ≤ most_nesting
  pub long : length (canonical v) ≤ W.room w
  pub not_too_long : length (canonical v) ≤ most_output

-- seven numbers for each node and two for each entry, nesting as much as the value takes, and no more than 01 counts
pub record JustReads (v : Value) (R : Reader) (c : R.Calls) : Type 0 where
  pub deep : depth_of v ≤ R.nesting c
  pub not_too_deep : depth_of v ≤ most_nesting
  pub not_too_long : length (canonical v) ≤ most_bytes
  pub nodes : nodes_of v * node_width ≤ R.nodes c
  pub not_too_many : nodes_of v ≤ most_records
  pub entries : entries_of v * entry_width ≤ R.entries c
  pub not_too_many-entries : entries_of v ≤ most_records

pub record NoMoreAsked : Type 1 where
  pub to_write : (v : Value) (W : Writer) (w : W.Calls) → JustWrites v W w → WriteFits v W w
  pub to_read : (v : Value) (R : Reader) (c : R.Calls) → JustReads v R c → ReadFits v R c
