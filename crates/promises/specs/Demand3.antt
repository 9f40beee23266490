-- Demand 3 of the request, over the calls of a reader: "Take the plain reading: the grammar's answer without limits on nesting, nodes, entries
-- or slots, counted to where it stops. The reader gives exactly that answer, refusals and places included, when all four counts fit; otherwise
-- it gives the first room refusal in reading order. More room never changes any other answer. Up to 16 MiB in all, bytes added at the end
-- change only refusals 1 and 2." The words over the reading itself stand in grammar's `Counted`.
use Rattle.std.specs.Prelude.{◌≡◌, ℕ, ◌≤◌, ◌<◌, List, ◌++◌, length}
use Rattle.refusals.specs.Numbers.{input_too_long}
use Rattle.refusals.specs.Limits.{most_bytes}
use Rattle.clearing.specs.Lent.{zeros}
use Rattle.grammar.specs.Reading.{stops}
use Rattle.grammar.specs.Room.{Rooms, number_of, plainly}
use Rattle.grammar.specs.Answer.{plain, rooms_of, Outcome, outcome_of}
use Rattle.grammar.specs.Counted.{claims_of, AllFour, Over, NotOfRoom, Larger, Widened, Uncut}
use Rattle.promises.specs.Calls.{Reader}

-- the room that a call gives
abbrev pub room_in : (R : Reader) → R.Calls → Rooms
room_in R c = rooms_of (R.nodes c) (R.entries c) (R.slots c) (R.nesting c)

-- a call that is refused: number and place, and every store all zero
abbrev pub refusing : (R : Reader) → R.Calls → (number place : ℕ) → Outcome
refusing R c number place = record { answer = stops number place; nodes = zeros (R.nodes c); entries = zeros (R.entries c); slots = zeros (R.slots c) }

-- How a call ends. All four counts fit: the plain reading's answer, and the stores hold what it gives. Otherwise, and then only, a claim does
-- not fit: the first such claim is refused with the number of its kind, at its place.
pub data EndsIn (R : Reader) (c : R.Calls) : Type 0 where
  fits : AllFour (R.input c) (room_in R c) → R.ends c ≡ outcome_of (R.nodes c) (R.entries c) (R.slots c) (plainly (plain (R.input c))) → EndsIn R c
  short : (AllFour (R.input c) (room_in R c) → ⊥) → (o : Over (room_in R c) (claims_of (R.input c))) → R.ends c ≡ refusing R c (number_of o.first.kind) o.first.place → EndsIn R c

pub record Demand3 (R : Reader) : Type 0 where
  pub exact_or_first : (c : R.Calls) → length (R.input c) ≤ most_bytes → EndsIn R c
  -- 01: "InputTooLong, tested before all", at 0
  pub too_long : (c : R.Calls) → most_bytes < length (R.input c) → R.ends c ≡ refusing R c input_too_long 0
  -- an answer that is no room refusal is given in any larger room, and the stores hold the same numbers, then zeros
  pub more_room : (c c' : R.Calls) → R.input c' ≡ R.input c
      → Larger (R.nodes c) (R.entries c) (R.slots c) (R.nesting c) (R.nodes c') (R.entries c') (R.slots c') (R.nesting c')
      → NotOfRoom (R.ends c).answer → Widened (R.nodes c) (R.entries c) (R.slots c) (R.nodes c') (R.entries c') (R.slots c') (R.ends c) (R.ends c')
  -- an end that is neither 1 nor 2 is the same with bytes added, contents included
  pub more_bytes : (c c' : R.Calls) (t : List ℕ) → R.input c' ≡ R.input c ++ t → length (R.input c') ≤ most_bytes
      → R.nodes c' ≡ R.nodes c → R.entries c' ≡ R.entries c → R.slots c' ≡ R.slots c → R.nesting c' ≡ R.nesting c
      → Uncut (R.ends c).answer → R.ends c' ≡ R.ends c
