-- The visit behind a move: a node and everything reachable from it, in order of first visit, over any stores, also those that no reading made.
-- 02, K11: "move it and everything reachable from it to the front of the stores, in order of first visit from that node, depth first".
use Rattle.std.specs.Prelude.{◌≡◌, ℕ, zero, suc, Bool, true, false, cond, not, ◌&&◌, ◌||◌, List, [], ◌∷◌, ◌++◌, ltb, eqb}
use Rattle.grammar.specs.State.{node_at, entry_at}

-- the two stores, and below what their numbers are: those used, or the store's
pub record Stores : Type 0 where
  pub nodes : List ℕ
  pub entries : List ℕ
  pub node_limit : ℕ
  pub entry_limit : ℕ

abbrev pub stores : (nodes entries : List ℕ) → (node_limit entry_limit : ℕ) → Stores
stores nodes entries node_limit entry_limit = record { nodes = nodes; entries = entries; node_limit = node_limit; entry_limit = entry_limit }

unfoldable pub member : ℕ → List ℕ → Bool
member n [] = false
member n (x ∷ xs) = eqb n x || member n xs

-- Chains.

-- so many entries from one on, each naming the next
unfoldable pub linked : List ℕ → (count e : ℕ) → List ℕ
linked entries zero e = []
linked entries (suc more) e = e ∷ linked entries more (entry_at entries e).next

abbrev pub chain_of : Stores → ℕ → List ℕ
chain_of t n = linked t.entries (node_at t.nodes n).count (node_at t.nodes n).first

unfoldable pub children_of : List ℕ → List ℕ → List ℕ
children_of entries [] = []
children_of entries (e ∷ es) = (entry_at entries e).child ∷ children_of entries es

abbrev pub children : Stores → ℕ → List ℕ
children t n = children_of t.entries (chain_of t n)

-- "entries container by container in that order"
unfoldable pub chains : Stores → List ℕ → List ℕ
chains t [] = []
chains t (n ∷ ns) = chain_of t n ++ chains t ns

-- "a bad chain (here also one that meets an entry already met)": every number is below the limit, and none was met before
unfoldable pub fresh : (limit : ℕ) → (met : List ℕ) → List ℕ → Bool
fresh limit met [] = true
fresh limit met (e ∷ es) = ltb e limit && (not (member e met) && fresh limit (e ∷ met) es)

-- The visit: the nodes in order of first visit, or the number at which it is refused.
pub data Visited : Type 0 where
  bad : (place : ℕ) → Visited
  visited : (order : List ℕ) → Visited

-- "depth first": the first pending node is taken; where it is new, its children come before all that was pending.
abbrev pub turn : Stores → (on : List ℕ → List ℕ → Visited) → (pending order : List ℕ) → Visited
turn t on [] order = visited order
turn t on (n ∷ pending) order =
    cond (ltb n t.node_limit)
    (cond (member n order)
    (on pending order)
    (cond (fresh t.entry_limit (chains t order) (chain_of t n)) (on (children t n ++ pending) (order ++ n ∷ [])) (bad n)))
    (bad n)

abbrev pub unfinished : (pending order : List ℕ) → Visited
unfinished [] order = visited order
unfinished (n ∷ pending) order = bad n

-- A turn takes one pending node and adds as many as it meets entries, so that one turn more than there are entries is enough.
unfoldable pub visit : (turns : ℕ) → Stores → (pending order : List ℕ) → Visited
visit zero t pending order = unfinished pending order
visit (suc turns) t pending order = turn t (λ p o. visit turns t p o) pending order

abbrev pub visit_from : Stores → ℕ → Visited
visit_from t root = visit (suc t.entry_limit) t (root ∷ []) []

-- "everything reachable from it"
pub data Reaches (t : Stores) (root : ℕ) : ℕ → Type 0 where
  here : Reaches t root root
  down : (a c : ℕ) → Reaches t root a → member c (children t a) ≡ true → Reaches t root c

-- The numbers given by the visit.

-- a node's new number: how many were visited before it
unfoldable pub place_in : List ℕ → ℕ → ℕ
place_in [] n = zero
place_in (x ∷ xs) n = cond (eqb n x) zero (suc (place_in xs n))
