-- No export and no promise rests on this page.
-- Whether a chain is whole, and whether a node is sound bytes or a sound string, as the code answers it. 01, 'Writing it back': "16 is given
-- exactly when ..".
use Rattle.std.specs.Prelude.{◌≡◌, ℕ, ◌+◌, ◌≤◌, ◌<◌, Bool, true, false, ◌&&◌, List, []}
use Rattle.std.proofs.Math.Option.{Option, none, some}
use Rattle.grammar.specs.Letters.{is_bytes, is_string}
use Rattle.grammar.specs.State.{node_at, entry_at}
use Rattle.grammar.specs.Record.{Tables, tables_of, chain, sound_at, bad_string}

abbrev pub is_some : {A : Type 0} → Option A → Bool
is_some none = false
is_some (some a) = true

abbrev pub is_none : {A : Type 0} → Option A → Bool
is_none none = true
is_none (some a) = false

-- entries alone: what a chain is made of
abbrev pub links : (entries : List ℕ) → (used : ℕ) → Tables
links entries used = tables_of [] [] entries 0 used

-- sound bytes, and a sound string
abbrev pub bytes_at : (input nodes : List ℕ) → (used node : ℕ) → Bool
bytes_at input nodes used v = sound_at input nodes used v && is_bytes (node_at nodes v).letter

abbrev pub string_at : (input nodes : List ℕ) → (used node : ℕ) → Bool
string_at input nodes used v = sound_at input nodes used v && is_string (node_at nodes v).letter

-- so many entries, each linked to the one behind it
pub record Straight (entries : List ℕ) (room first steps r : ℕ) : Type 0 where
  pub few : r ≤ steps
  pub each : (k : ℕ) → k < r → (first + k < room) × ((entry_at entries (first + k)).next ≡ first + k + 1)

-- whether the children of a chain are all sound strings
pub record Names (t : Tables) (first count : ℕ) (r : Bool) : Type 0 where
  pub tells : (kids : List ℕ) → chain t count first ≡ some kids → r ≡ is_none (bad_string t kids)
