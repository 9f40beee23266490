-- How the calls on row starts end, for demand 1: an answer, or 17 or 20 with a place, and then the index is zero. Assumes nothing.
use mathlib.Core.Path.{◌≡◌, ap}
use mathlib.Core.Bool.{Bool, true, false, cond}
use mathlib.Core.List.{List}
use Prim.Native.Nat.{ℕ, ◌/◌}
use native.Mathlib.Omega.{arith}
use lib.ListN.{length}
use lib.Dec.{ltb}
use Rattle.std.specs.Prelude.{Option, None, Some, Ok}
use Rattle.refusals.specs.Numbers.{no_room, no_such_start}
use Rattle.refusals.specs.Faults.{refused}
use Rattle.refusals.specs.declared.Refusal.TheVariants.{NoRoom, NoSuchStart}
use Rattle.clearing.specs.Lent.{zeros, padded}
use Rattle.startindex.specs.Starts.{starts_in}
use Rattle.startindex.specs.Index.{need, built, indexed}
use Rattle.starts.specs.Questions.{before, kth, found, starts_before, start_at}
use Rattle.sillgarland.specs.Starts.{indexed_struct, indexed_as, start_struct}
use Rattle.sillgarland.specs.declared.rowstarts.SillIndexed.{SillIndexed}
use Rattle.sillgarland.specs.declared.rowstarts.SillStart.{SillStart}
use Rattle.promises.specs.Demand1.{InTable, Ends, answers, refuses, Zero, StartEnds}

short : InTable no_room
short = (omega arith, omega arith)

lacking : InTable no_such_start
lacking = (omega arith, omega arith)

pub index-ends : (rs : List ℕ) (count : ℕ) (lent left : List ℕ) (r : SillIndexed) → (r, left) ≡ indexed_as (indexed rs count (length lent))
    → Ends r (λ starts. indexed_struct (Ok starts)) (λ number place. record { refusal = number; place = place; starts = 0 }) (Zero lent left)
unfolding indexed
index-ends rs count lent left r e = go (ltb (length rs / 4) count) (ltb (length lent) (need count)) e where
  go : (s t : Bool)
      → (r, left) ≡ indexed_as (cond s (refused NoRoom (length rs / 4), zeros (length lent)) (cond t (refused NoRoom (length lent), zeros (length lent)) (Ok (starts_in rs 0 count), padded (length lent) (built rs count))))
      → Ends r (λ starts. indexed_struct (Ok starts)) (λ number place. record { refusal = number; place = place; starts = 0 }) (Zero lent left)
  go true t h = refuses no_room (length rs / 4) short (ap (λ x. x.0) h) (ap (λ x. x.1) h)
  go false true h = refuses no_room (length lent) short (ap (λ x. x.0) h) (ap (λ x. x.1) h)
  go false false h = answers (starts_in rs 0 count) (ap (λ x. x.0) h)

pub before-ends : (index : List ℕ) (count n : ℕ) (r : SillStart) → r ≡ start_struct (starts_before index count n) → StartEnds r
unfolding starts_before
before-ends index count n r e = go (ltb (length index) (need count)) (ltb count n) e where
  go : (s t : Bool) → r ≡ start_struct (cond s (refused NoRoom (length index)) (cond t (refused NoSuchStart 0) (Ok (before index n)))) → StartEnds r
  go true t h = refuses no_room (length index) short h tt
  go false true h = refuses no_such_start 0 lacking h tt
  go false false h = answers (before index n) h

pub at_ends : (index : List ℕ) (count k : ℕ) (r : SillStart) → r ≡ start_struct (start_at index count k) → StartEnds r
unfolding start_at
at_ends index count k r e = go (ltb (length index) (need count)) (kth index count k) e where
  go : (s : Bool) (spot : Option ℕ) → r ≡ start_struct (cond s (refused NoRoom (length index)) (found spot)) → StartEnds r
  go true spot h = refuses no_room (length index) short h tt
  go false None h = refuses no_such_start 0 lacking h tt
  go false (Some i) h = answers i h
