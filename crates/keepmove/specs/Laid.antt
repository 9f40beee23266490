-- No export and no promise rests on this page.
-- What is gathered in the scratch for the moved records, and how it is laid over the stores, column by column.
use Rattle.std.specs.Prelude.{ℕ, zero, suc, ◌+◌, ◌-◌, ◌*◌, cond, List, [], ◌∷◌, ◌++◌, length, get_or, set, take, ltb}
use Rattle.refusals.specs.Limits.{nothing}
use Rattle.clearing.specs.Lent.{zeros}
use Rattle.grammar.specs.State.{node_at, node_width, entry_width}
use Rattle.keepvisit.specs.Visit.{linked, children_of}
use Rattle.keepmove.specs.Moved.{first_of}

-- a node's new number by its rank; one that has none gets that of the next
abbrev pub by_rank : (kept rank : ℕ) → ℕ
by_rank kept zero = kept
by_rank kept (suc r) = r

unfoldable pub new_at : List ℕ → (bound kept n : ℕ) → ℕ
new_at s bound kept n = cond (ltb n bound) (by_rank kept (get_or s (bound + n) 0)) kept

-- one chain's children by their new numbers, and those of these nodes
unfoldable pub kids_of : (entries s : List ℕ) → (bound kept : ℕ) → List ℕ → List ℕ
kids_of entries s bound kept [] = []
kids_of entries s bound kept (c ∷ cs) = new_at s bound kept c ∷ kids_of entries s bound kept cs

unfoldable pub all_kids : (nodes entries s : List ℕ) → (bound kept : ℕ) → List ℕ → List ℕ
all_kids nodes entries s bound kept [] = []
all_kids nodes entries s bound kept (n ∷ ns) =
    kids_of entries s bound kept (children_of entries (linked entries (node_at nodes n).count (node_at nodes n).first)) ++ all_kids nodes entries s bound kept ns

-- the links of a chain of so many entries, the first of which is `at`
unfoldable pub links_of : (at count : ℕ) → List ℕ
links_of at zero = []
links_of at (suc zero) = nothing ∷ []
links_of at (suc (suc more)) = (at + 1) ∷ links_of (at + 1) (suc more)

unfoldable pub all_links : (nodes : List ℕ) → (at : ℕ) → List ℕ → List ℕ
all_links nodes at [] = []
all_links nodes at (n ∷ ns) = links_of at (node_at nodes n).count ++ all_links nodes (at + (node_at nodes n).count) ns

-- how many entries these nodes have
unfoldable pub total : (nodes : List ℕ) → List ℕ → ℕ
total nodes [] = 0
total nodes (n ∷ ns) = (node_at nodes n).count + total nodes ns

-- the first entries of these nodes
unfoldable pub firsts_of : (nodes : List ℕ) → (at : ℕ) → List ℕ → List ℕ
firsts_of nodes at [] = []
firsts_of nodes at (n ∷ ns) = first_of (node_at nodes n).count at ∷ firsts_of nodes (at + (node_at nodes n).count) ns

-- one number of each of these nodes
unfoldable pub column_of : (nodes : List ℕ) → (column : ℕ) → List ℕ → List ℕ
column_of nodes column [] = []
column_of nodes column (n ∷ ns) = get_or nodes (n * node_width + column) 0 ∷ column_of nodes column ns

-- numbers stored at every `width` places
unfoldable pub stepped : (store : List ℕ) → (at width : ℕ) → List ℕ → List ℕ
stepped store at width [] = store
stepped store at width (v ∷ vs) = stepped (set store at v) (at + width) width vs

-- zero from a place on
abbrev pub zeroed_from : List ℕ → ℕ → List ℕ
zeroed_from store from = take from store ++ zeros (length store - from)

-- one number of each of these nodes, from the front of the store on
abbrev pub column_moved : (nodes order : List ℕ) → (column : ℕ) → List ℕ
column_moved nodes order column = stepped nodes column node_width (column_of nodes column order)

-- three numbers, as the nodes had them
abbrev pub three_moved : (nodes order : List ℕ) → (column : ℕ) → List ℕ
three_moved nodes order column =
    stepped (stepped (column_moved nodes order column) (column + 1) node_width (column_of nodes (column + 1) order)) (column + 2) node_width (column_of nodes (column + 2) order)

-- their first entries
abbrev pub firsts_moved : (nodes order : List ℕ) → List ℕ
firsts_moved nodes order = stepped nodes 3 node_width (firsts_of nodes 0 order)

-- the entries of the first nodes of the order in the new order, and zeros behind them
abbrev pub entries_moved : (nodes entries visited : List ℕ) → (bound kept : ℕ) → List ℕ
entries_moved nodes entries visited bound kept =
    zeroed_from
    (stepped (stepped entries 0 entry_width (all_kids nodes entries visited bound kept (take kept visited))) 1 entry_width (all_links nodes 0 (take kept visited)))
    (total nodes (take kept visited) * entry_width)
