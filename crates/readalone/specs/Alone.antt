-- One value of a file, read from the bytes of its part alone and with all the room: how many bytes it takes, or the reader's own refusal.
-- 02, K13: "Both are read before anything is written; places count from the file's start."
use Rattle.std.specs.Prelude.{ℕ, ◌+◌, ◌<◌, List}
use Rattle.grammar.specs.Reading.{Answer, gives, stops}
use Rattle.grammar.specs.State.{State}
use Rattle.grammar.specs.Answer.{Counts, reading}

-- the room that each value has: the lengths of the three stores, and the nesting
pub record Room : Type 0 where
  pub nodes : ℕ
  pub entries : ℕ
  pub slots : ℕ
  pub nesting : ℕ

abbrev pub lent : (nodes entries slots nesting : ℕ) → Room
lent nodes entries slots nesting = record { nodes = nodes; entries = entries; slots = slots; nesting = nesting }

-- the reading of a part
abbrev pub within : Room → List ℕ → Answer (ℕ × State)
within R part = reading part R.nodes R.entries R.slots R.nesting

-- "places count from the file's start": the part's start is added. (14 comes of no part but a whole old golden, at 0.)
abbrev pub placed_from : ℕ → Answer (ℕ × State) → Answer ℕ
placed_from start (gives r) = gives r.1.at
placed_from start (stops number place) = stops number (start + place)

unfoldable pub alone : Room → ℕ → List ℕ → Answer ℕ
alone R start part = placed_from start (within R part)

-- what the reader's own answer comes to, and that its place then has 32 bits
abbrev pub placed_counts : ℕ → Answer Counts → Answer ℕ
placed_counts start (gives c) = gives c.consumed
placed_counts start (stops number place) = stops number (start + place)

abbrev pub Fitting : ℕ → Answer Counts → Type 0
Fitting start (gives c) = Unit {0}
Fitting start (stops number place) = start + place < 4294967296
