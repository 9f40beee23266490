-- No export and no promise rests on this page.
-- What each part of the move leaves: contracts of inner functions.
use Rattle.std.specs.Prelude.{◌≡◌, ℕ, ◌+◌, ◌*◌, ◌≤◌, List, length, take}
use Rattle.refusals.specs.Limits.{most_records}
use Rattle.clearing.specs.Lent.{zeros}
use Rattle.grammar.specs.State.{entry_width}
use Rattle.keepvisit.specs.Visit.{stores}
use Rattle.keepvisit.specs.Found.{Found}
use Rattle.keepmove.specs.Moved.{nodes_after, entries_after}
use Rattle.keepmove.specs.Laid.{total}

-- The room that the move of the entries needs.
pub record Movable (nodes entries s : List ℕ) (bound limit kept moved : ℕ) : Type 0 where
  pub fewer : kept ≤ bound
  pub all : moved ≡ total nodes (take kept s)
  pub within : moved ≤ limit
  pub room : bound * 3 + limit * 2 ≤ length s
  pub held : limit * entry_width ≤ length entries
  pub most : bound ≤ most_records
  pub most_entries : limit ≤ most_records

-- Everything is moved, and what was lent besides is cleared.
pub record AllMoved (nodes entries slots s : List ℕ) (bound limit kept : ℕ) (nodes' entries' slots' s' : List ℕ) : Type 0 where
  pub node_store : (order : List ℕ) → Found (stores nodes entries bound limit) order s → kept ≡ length order → nodes' ≡ nodes_after nodes order
  pub entry_store : (order : List ℕ) → Found (stores nodes entries bound limit) order s → kept ≡ length order → entries' ≡ entries_after (stores nodes entries bound limit) order
  pub slot_store : slots' ≡ zeros (length slots)
  pub cleared : s' ≡ zeros (length s)
