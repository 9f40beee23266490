-- No export and no promise rests on this page.
-- Two lendings to the writer that differ only in what it does not read.
-- 01, 'Writing it back': "Links past the count and bytes before the place are not read." 02, K7, of a node's end: "not read by the writer". 02, K11: nor is the number of a
-- node's input, which only names it.
use Rattle.std.specs.Prelude.{◌≡◌, ℕ, zero, suc, ◌+◌, ◌≤◌, ◌<◌, List, length, get_or}
use Rattle.grammar.specs.Letters.{Class, refers, keeps, contains, codes, refuses, class_of}
use Rattle.grammar.specs.Fields.{code_numbers}
use Rattle.grammar.specs.State.{Node, entry_at}
use Rattle.grammar.specs.Record.{Tables, node_of, nodes_in, entries_in}

-- so many bytes from a place on
abbrev pub SameFrom : (s s' : List ℕ) → (at size : ℕ) → Type 0
SameFrom s s' at size = (i : ℕ) → at ≤ i → i < at + size → get_or s i 0 ≡ get_or s' i 0

-- The bytes of a node itself are its span; those of a code, in whose span its parts stand, its five numbers and its first line. In stores
-- that a reading left, headers and the length fields of strings are in none of these.
abbrev pub SameBytes : (s s' : List ℕ) → Node → Class → Type 0
SameBytes s s' n refers = Unit
SameBytes s s' n (refuses number) = Unit
SameBytes s s' n (keeps form) = SameFrom s s' n.place n.size
SameBytes s s' n (contains which) = SameFrom s s' n.place n.size
SameBytes s s' n codes = SameFrom s s' n.place code_numbers × SameFrom s s' (n.place + n.size) 4

-- So many entries, linked from e and from e' on: a first entry or a link is the same while one more is counted, and then not asked.
unfoldable pub SameLinks : (t t' : Tables) → (count e e' : ℕ) → Type 0
SameLinks t t' zero e e' = Unit
SameLinks t t' (suc more) e e' =
    (e ≡ e')
    × (e < entries_in t.entries t.used_entries
    → ((entry_at t.entries e).child ≡ (entry_at t'.entries e').child)
    × SameLinks t t' more (entry_at t.entries e).next (entry_at t'.entries e').next)

-- nothing is asked of the ends and the inputs
pub record SameNode (t t' : Tables) (n n' : Node) : Type 0 where
  pub letter : n.letter ≡ n'.letter
  pub place : n.place ≡ n'.place
  pub size : n.size ≡ n'.size
  pub count : n.count ≡ n'.count
  pub links : SameLinks t t' n.count n.first n'.first
  pub bytes : SameBytes t.input t'.input n (class_of n.letter)

-- "a node or entry number is beyond those used or the store": what stands past these is not read either
pub record SameRead (t t' : Tables) : Type 0 where
  pub length_of_lem : length t.input ≡ length t'.input
  pub nodes_in_lem : nodes_in t.nodes t.used_nodes ≡ nodes_in t'.nodes t'.used_nodes
  pub entries_in_lem : entries_in t.entries t.used_entries ≡ entries_in t'.entries t'.used_entries
  pub each-node : (n : ℕ) → n < nodes_in t.nodes t.used_nodes → SameNode t t' (node_of t n) (node_of t' n)
