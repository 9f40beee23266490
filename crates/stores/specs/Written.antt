-- No export and no promise rests on this page.
-- What a store holds once a record in it is written: the record's numbers, from its first on, in the order of `node_cells` and `entry_cells`.
-- 01, 'What is lent and what is kept'.
use Rattle.std.specs.Prelude.{ℕ, ◌+◌, ◌*◌, ◌≤◌, ◌≡◌, List, [], ◌∷◌, length, set}
use Rattle.std.proofs.lemmas.List.Edits.{sets}
use Rattle.clearing.specs.Lent.{padded}
use Rattle.grammar.specs.State.{Entry, node_width, entry_width, node_cells, entry_cells}
use Rattle.grammar.specs.State as state
use Rattle.stores.specs.declared.Node.{Node}

-- a store holds these numbers, and behind them zeros
abbrev pub Keeps : (store cells : List ℕ) → Type 0
Keeps store cells = store ≡ padded (length store) cells

-- the numbers of a record are in the store
abbrev pub NodeIn : (store : List ℕ) → ℕ → Type 0
NodeIn store n = n * node_width + node_width ≤ length store

abbrev pub EntryIn : (store : List ℕ) → ℕ → Type 0
EntryIn store e = e * entry_width + entry_width ≤ length store

-- a node's numbers as the code carries them, in the words of the grammar
abbrev pub node_of : Node → state.Node
node_of n = record { letter = n.letter; place = n.place; size = n.size; first = n.first; count = n.count; end = n.end; input = n.input }

abbrev pub node_written : List ℕ → ℕ → state.Node → List ℕ
node_written store n node = sets store (n * node_width) (node_cells (node ∷ []))

abbrev pub entry_written : List ℕ → ℕ → Entry → List ℕ
entry_written store e entry = sets store (e * entry_width) (entry_cells (entry ∷ []))

-- "two numbers: node, next entry": the second of an entry
abbrev pub entry_linked : List ℕ → ℕ → ℕ → List ℕ
entry_linked store e next = set store (e * entry_width + 1) next
