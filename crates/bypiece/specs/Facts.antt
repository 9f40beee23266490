-- No export and no promise rests on this page.
-- What the steps of the end may take for granted.
use Rattle.std.specs.Prelude.{List, ℕ, ◌*◌, ◌≤◌, ◌≡◌, length}
use Rattle.piecestate.specs.declared.Kept.{Kept}
use Rattle.piecestate.specs.State.{kept_at}

-- a state that is about to end, with room for its records
pub record Ending (k : Kept) (s rs : List ℕ) : Type 0 where
  pub numbers : 40 ≤ length s
  pub keeps : k ≡ kept_at s
  pub few : k.placed ≤ k.count
  pub room : 4 * k.count ≤ length rs
