-- What the reader's answer comes to in the file: its place has 32 bits, and the value ends in its part. By the bounds of every reading
-- (grammar, Bounded). Assumes nothing.
use mathlib.Core.Path.{◌≡◌, refl, sym, ap, subst, ◌∙◌}
use mathlib.Core.Bool.{Bool, true, false, cond}
use mathlib.Core.List.{List}
use Prim.Native.Nat.{ℕ, ◌≤◌, ◌<◌}
use native.Mathlib.Omega.{arith}
use lib.Dec.{ltb}
use lib.ListN.{length}
use borrow.Author.Tests.{ltb-false}
use Rattle.refusals.specs.Numbers.{input_too_long}
use Rattle.refusals.specs.Limits.{most_bytes}
use Rattle.grammar.specs.Reading.{Answer, gives, stops}
use Rattle.grammar.specs.Room.{Rooms, run}
use Rattle.grammar.specs.State.{State}
use Rattle.grammar.specs.Answer.{plain, rooms_of, reading, Counts, answered, read_of}
use Rattle.grammar.proofs.Bounded.{places_in, accepted-within}
use Rattle.readalone.specs.Alone.{Room, within, placed_from, alone, placed_counts, Fitting}

-- every answer to a part: a value that ends in it, or a refusal at one of its places
abbrev pub In : List ℕ → Answer (ℕ × State) → Type 0
In part (gives r) = (r.1.at ≤ length part) × (0 < r.1.at) × (length part ≤ most_bytes)
In part (stops number place) = place ≤ most_bytes

pub answers_in : (R : Room) (part : List ℕ) → In part (within R part)
unfolding reading
answers_in R part = long (ltb most_bytes (length part)) refl
  where
    rooms : Rooms
    rooms = rooms_of R.nodes R.entries R.slots R.nesting

    go : length part ≤ most_bytes → (a : Answer (ℕ × State)) → run rooms (plain part) ≡ a → In part a
    go small (gives r) q = let w = accepted-within part small rooms r q in (w.consumed, w.some-consumed, small)
    go small (stops number place) q = let w = places_in part small rooms number place q in omega arith

    long : (b : Bool) → ltb most_bytes (length part) ≡ b → In part (cond b (stops input_too_long 0) (run rooms (plain part)))
    long true q = omega arith
    long false q = go (ltb-false most_bytes (length part) q) (run rooms (plain part)) refl

module _ (R : Room) (start : ℕ) (part : List ℕ) {a : Answer Counts} (e : a ≡ (read_of part R.nodes R.entries R.slots R.nesting).answer) where
  pub place-fits : start ≤ 16777216 → Fitting start a
  unfolding read_of
  place-fits l = subst (Fitting start) (sym e) (go (within R part) (answers_in R part))
    where
      go : (x : Answer (ℕ × State)) → In part x → Fitting start (answered x)
      go (gives r) w = tt
      go (stops number place) w = omega arith

  pub placed-alone : placed_counts start a ≡ alone R start part
  unfolding read_of alone
  placed-alone = ap (placed_counts start) e ∙ go (within R part)
    where
      go : (x : Answer (ℕ × State)) → placed_counts start (answered x) ≡ placed_from start x
      go (gives r) = refl
      go (stops number place) = refl

-- a value has a byte and ends in its part, which is no longer than an input
pub record Ended (part : List ℕ) (size : ℕ) : Type 0 where
  pub some_bytes : 0 < size
  pub inside : size ≤ length part
  pub small : length part ≤ 16777216

pub alone-ends : (R : Room) (start : ℕ) (part : List ℕ) (size : ℕ) → alone R start part ≡ gives size → Ended part size
unfolding alone
alone-ends R start part size e = go (within R part) (answers_in R part) e
  where
    go : (x : Answer (ℕ × State)) → In part x → placed_from start x ≡ gives size → Ended part size
    go (gives r) w q = let z : r.1.at ≡ size = cc in record { some_bytes = omega (arith, w.1, z); inside = omega (arith, w.0, z); small = w.2 }
    go (stops number place) w q = let z : ◌≡◌ {A = ℕ} 0 1 = cc in absurd (omega arith)
