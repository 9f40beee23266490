-- No export and no promise rests on this page.
-- What the scratch holds: marks of the entries met, the order, and each node's new number.
use Rattle.std.specs.Prelude.{◌≡◌, ℕ, suc, ◌+◌, ◌*◌, ◌≤◌, ◌<◌, Bool, true, false, cond, List, [], ◌++◌, length, get_or, take, drop, Result, Ok}
use Rattle.refusals.specs.Limits.{most_records}
use Rattle.refusals.specs.Faults.{refused}
use Rattle.refusals.specs.declared.Fault.{Fault}
use Rattle.refusals.specs.declared.Refusal.TheVariants.{BadTable}
use Rattle.clearing.specs.Lent.{zeros}
use Rattle.keepvisit.specs.declared.Seen.{Seen}
use Rattle.keepvisit.specs.Visit.{Stores, Visited, bad, visited, member, linked, fresh, place_in, chains}

abbrev pub flag : Bool → ℕ
flag true = 1
flag false = 0

-- a scratch that is cleared and has the room that the visit and the move need
pub record Room (bound limit : ℕ) (s : List ℕ) : Type 0 where
  pub cleared : s ≡ zeros (length s)
  pub room : bound * 3 + limit * 2 ≤ length s
  pub some : 0 < bound
  pub most : bound ≤ most_records
  pub most_entries : limit ≤ most_records

-- from `base` on there is a mark for each entry: 1 where it was met
pub record Marked (base limit : ℕ) (met s : List ℕ) : Type 0 where
  pub at : (e : ℕ) → e < limit → get_or s (base + e) 0 ≡ flag (member e met)

-- A chain was walked and its entries marked, the scratch now being s', and r whether it is whole and none of them was met before.
pub record Marks (entries : List ℕ) (base limit count first : ℕ) (s s' : List ℕ) (r : Bool) : Type 0 where
  pub exact : (met : List ℕ) → Marked base limit met s → r ≡ fresh limit met (linked entries count first)
  pub marked : (met : List ℕ) → Marked base limit met s → r ≡ true → Marked base limit (met ++ linked entries count first) s'
  pub front : take base s' ≡ take base s
  pub back : drop (base + limit) s' ≡ drop (base + limit) s
  pub same : length s' ≡ length s

-- 0 where a node is not visited, else one more than its new number
unfoldable pub rank : List ℕ → ℕ → ℕ
rank order n = cond (member n order) (suc (place_in order n)) 0

-- After the visit: the order from the front on, then each node's rank; and all of it fits.
pub record Found (t : Stores) (order s : List ℕ) : Type 0 where
  pub ordered : take (length order) s ≡ order
  pub ranked : (n : ℕ) → n < t.node_limit → get_or s (t.node_limit + n) 0 ≡ rank order n
  pub distinct : fresh t.node_limit [] order ≡ true
  pub nodes : length order ≤ t.node_limit
  pub entries : length (chains t order) ≤ t.entry_limit

-- the visit's answer, and what it leaves in the scratch
abbrev pub Answers : Stores → Visited → Result Seen Fault → List ℕ → Type 0
Answers t (bad place) r s = r ≡ refused BadTable place
Answers t (visited order) r s = (r ≡ Ok (record { kept = length order; moved = length (chains t order) })) × Found t order s
