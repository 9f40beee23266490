-- The start: what its tests decide.
use mathlib.Core.Path.{◌≡◌}
use mathlib.Core.Bool.{false}
use mathlib.Core.List.{List}
use Prim.Native.Nat.{ℕ, ◌/◌, ◌≤◌, ◌<◌}
use lib.ListN.{length}
use borrow.Author.Tests.{lt-ltb, le-ltb}
use Rattle.clearing.specs.Lent.{zeros}
use Rattle.piecestate.specs.Answers.{left, told, stuck, no_state}
use Rattle.pieces.specs.Calls.{fresh, begin}
use Rattle.refusals.specs.Faults.{fault}
use Rattle.refusals.specs.declared.Refusal.TheVariants.{NoRoom}

module _ (first count : ℕ) (s rs : List ℕ) where
  pub begin_none : length s < 40 → begin first count s rs ≡ no_state s rs
  unfolding begin
  begin_none h = rw (lt-ltb (length s) 40 h)

  pub begin-few : 40 ≤ length s → length rs / 4 < count → begin first count s rs ≡ stuck (fresh first count s) rs (fault NoRoom (length rs / 4))
  unfolding begin
  begin-few h k = rw (le-ltb (length s) 40 h, lt-ltb (length rs / 4) count k)

  pub begin_on : 40 ≤ length s → count ≤ length rs / 4 → begin first count s rs ≡ left (told 0 false) (fresh first count s) (zeros (length rs))
  unfolding begin
  begin_on h k = rw (le-ltb (length s) 40 h, le-ltb (length rs / 4) count k)
