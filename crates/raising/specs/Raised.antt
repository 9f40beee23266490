-- No export and no promise rests on this page.
-- What each loop leaves of a store that keeps the records of a reading: contracts of inner functions. The sums have 32 bits, as every number
-- that a reading of the room that is left raises has.
use Rattle.std.specs.Prelude.{◌≡◌, ℕ, ◌+◌, ◌%◌, ◌<◌, cond, List, map, length, ◌==◌, slice_index, slice_index_or}
use Rattle.grammar.specs.State.{Node, Entry, blank, unlinked, node_cells, entry_cells}
use Rattle.stores.specs.Written.{Keeps}
use Rattle.raising.specs.Appended.{raised_link, appended_node, appended_entry, appended_slot}

-- a sum of 32 bits, of a number that is not the one that stays
abbrev pub sum32 : (stays kept n : ℕ) → ℕ
sum32 stays kept n = cond (n == stays) n ((kept + n) % 4294967296)

-- every number raised has 32 bits
abbrev pub NodesRaise : (kept_entries : ℕ) → List Node → Type 0
NodesRaise kept_entries ns = (i : ℕ) → i < length ns → raised_link kept_entries (slice_index_or ns i blank).first < 4294967296

abbrev pub EntriesRaise : (kept_nodes kept_entries : ℕ) → List Entry → Type 0
EntriesRaise kept_nodes kept_entries es =
    (i : ℕ) → i < length es → (kept_nodes + (slice_index_or es i unlinked).child < 4294967296) × (raised_link kept_entries (slice_index_or es i unlinked).next < 4294967296)

abbrev pub SlotsRaise : (kept_nodes : ℕ) → List ℕ → Type 0
SlotsRaise kept_nodes ss = (i : ℕ) → i < length ss → kept_nodes + slice_index ss i < 4294967296

-- a store that keeps so many records keeps them raised
pub record NodesRaised (before : List ℕ) (count kept_entries number : ℕ) (after : List ℕ) : Type 0 where
  pub exact : (ns : List Node) → Keeps before (node_cells ns) → length ns ≡ count → NodesRaise kept_entries ns → Keeps after (node_cells (map (appended_node kept_entries number) ns))
  pub same : length after ≡ length before

pub record EntriesRaised (before : List ℕ) (count kept_nodes kept_entries : ℕ) (after : List ℕ) : Type 0 where
  pub exact : (es : List Entry) → Keeps before (entry_cells es) → length es ≡ count → EntriesRaise kept_nodes kept_entries es → Keeps after (entry_cells (map (appended_entry kept_nodes kept_entries) es))
  pub same : length after ≡ length before

pub record SlotsRaised (before : List ℕ) (count kept_nodes : ℕ) (after : List ℕ) : Type 0 where
  pub exact : (ss : List ℕ) → Keeps before ss → length ss ≡ count → SlotsRaise kept_nodes ss → Keeps after (map (appended_slot kept_nodes) ss)
  pub same : length after ≡ length before
