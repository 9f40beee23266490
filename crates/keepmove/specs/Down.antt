-- No export and no promise rests on this page.
-- Records that are moved one after another, where none stands before its new place: contracts of inner functions.
use Rattle.std.specs.Prelude.{◌≡◌, ℕ, ◌*◌, ◌≤◌, ◌<◌, Bool, true, List, ◌++◌, get_or, take, drop}
use Rattle.grammar.specs.State.{node_cells, node_width}
use Rattle.keepmove.specs.Moved.{moved_nodes}

-- each of so many numbers is no less than its place
pub record NoneRises (kept : ℕ) (s : List ℕ) : Type 0 where
  pub each : (i : ℕ) → i < kept → i ≤ get_or s i 0

pub record Rising (kept : ℕ) (s : List ℕ) (r : Bool) : Type 0 where
  pub none : r ≡ true → NoneRises kept s

-- the moved records in front of what stood behind so many
pub record MovedDown (nodes s : List ℕ) (kept : ℕ) (nodes' : List ℕ) : Type 0 where
  pub laid : nodes' ≡ node_cells (moved_nodes nodes 0 (take kept s)) ++ drop (kept * node_width) nodes
