-- What a value takes once sharing is written out: its nesting, its nodes and its entries; its bytes are the length of Canonical's.
-- 01, 'Reading a value': "Children get the allowance less one. Each claims an entry (12) after it is complete"; "Code spends two levels".
use Rattle.std.specs.Prelude.{ℕ, suc, ◌+◌, max, length}
use Rattle.grammar.specs.Answer.{Counts}
use Rattle.meaning.specs.Canonical.{canonical}
use Rattle.meaning.specs.Value.{Value, Values, nil, more, single, integer, float, complex, bytes, text, sequence, slice, dict, code}

unfoldable mutual
  pub depth_of : Value → ℕ
  depth_of (single letter) = 1
  depth_of (integer z) = 1
  depth_of (float bits) = 1
  depth_of (complex real imaginary) = 1
  depth_of (bytes contents) = 1
  depth_of (text contents) = 1
  depth_of (sequence letter vs) = suc (depth_all vs)
  depth_of (slice vs) = suc (depth_all vs)
  depth_of (dict vs) = suc (depth_all vs)
  depth_of (code numbers parts line tables) = suc (suc (max (depth_all parts) (depth_all tables)))

  pub depth_all : Values → ℕ
  depth_all nil = 0
  depth_all (more v vs) = max (depth_of v) (depth_all vs)

unfoldable mutual
  pub nodes_of : Value → ℕ
  nodes_of (single letter) = 1
  nodes_of (integer z) = 1
  nodes_of (float bits) = 1
  nodes_of (complex real imaginary) = 1
  nodes_of (bytes contents) = 1
  nodes_of (text contents) = 1
  nodes_of (sequence letter vs) = suc (nodes_all vs)
  nodes_of (slice vs) = suc (nodes_all vs)
  nodes_of (dict vs) = suc (nodes_all vs)
  nodes_of (code numbers parts line tables) = suc (nodes_all parts + nodes_all tables)

  pub nodes_all : Values → ℕ
  nodes_all nil = 0
  nodes_all (more v vs) = nodes_of v + nodes_all vs

unfoldable mutual
  pub entries_of : Value → ℕ
  entries_of (single letter) = 0
  entries_of (integer z) = 0
  entries_of (float bits) = 0
  entries_of (complex real imaginary) = 0
  entries_of (bytes contents) = 0
  entries_of (text contents) = 0
  entries_of (sequence letter vs) = entries_all vs
  entries_of (slice vs) = entries_all vs
  entries_of (dict vs) = entries_all vs
  entries_of (code numbers parts line tables) = entries_all parts + entries_all tables

  pub entries_all : Values → ℕ
  entries_all nil = 0
  entries_all (more v vs) = suc (entries_of v + entries_all vs)

-- What the reading of a value's canonical bytes counts: all of them, each node and each entry, and no slot.
abbrev pub counts_for : Value → Counts
counts_for v = record { consumed = length (canonical v); nodes = nodes_of v; entries = entries_of v; slots = 0 }
