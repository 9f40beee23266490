-- No export and no promise rests on this page.
-- What the steps of a piece may take for granted, each a record of plain facts.
use Rattle.std.specs.Prelude.{◌≡◌, true, false, List, ◌++◌, ℕ, ◌+◌, ◌*◌, ◌≤◌, ◌<◌, length, take}
use Rattle.refusals.specs.Limits.{most_bytes}
use Rattle.rows.specs.declared.RowEnd.{RowEnd}
use Rattle.rows.specs.Summary.{summary}
use Rattle.lostentry.specs.Lost.{lost}
use Rattle.piecestate.specs.declared.Kept.{Kept}
use Rattle.piecestate.specs.State.{refusing, ended, kept_at, held_at, sound_by, open_entry}

-- bytes that are held if they are not lost
pub record Unlost (held : List ℕ) (line : ℕ) : Type 0 where
  pub short : lost held line ≡ false → length held ≤ 25

-- the end of a row that was walked, with the state to keep it in
pub record Settling (t : List ℕ) (start count line left : ℕ) (x : RowEnd) (s : List ℕ) : Type 0 where
  pub numbers : 40 ≤ length s
  pub small : start + length t ≤ most_bytes
  pub few : left ≤ count
  pub tells : x ≡ summary t line left

-- bytes to walk, with room for their records
pub record Walking (t : List ℕ) (start placed count : ℕ) (s rs : List ℕ) : Type 0 where
  pub numbers : 40 ≤ length s
  pub small : start + length t ≤ most_bytes
  pub few : placed ≤ count
  pub room : 4 * count ≤ length rs

-- a piece of a reading that goes on
pub record Opened (v : List ℕ) (bytes : ℕ) (k : Kept) (s rs : List ℕ) : Type 0 where
  pub numbers : 40 ≤ length s
  pub keeps : k ≡ kept_at s
  pub few : k.placed ≤ k.count
  pub room : 4 * k.count ≤ length rs
  pub short : k.size ≤ 25
  pub small : k.start + (k.size + length v) ≤ most_bytes
  pub opens : 0 < k.size → open_entry (held_at s) k.line ≡ true

-- behind held bytes, with the first of them all
pub record Fronted (front v : List ℕ) (bytes : ℕ) (k : Kept) (s rs : List ℕ) : Type 0 where
  pub opened : Opened v bytes k s rs
  pub some : 0 < k.size
  pub begins : front ≡ held_at s ++ take 25 v

-- a state that lets a piece or the end in
pub record Entered (k : Kept) (s rs : List ℕ) : Type 0 where
  pub numbers : 40 ≤ length s
  pub keeps : k ≡ kept_at s
  pub sounds : sound_by s k ≡ true
  pub stands : k.status ≡ refusing → ⊥
  pub lasts : k.status ≡ ended → ⊥
  pub room : 4 * k.count ≤ length rs
