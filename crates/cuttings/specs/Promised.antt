-- 02, K6: what is promised of a table that comes by piece, over the definitions that the three calls' contracts cite. `proofs/Promised` is the
-- theorem.
use Rattle.std.specs.Prelude.{◌≡◌, Bool, true, false, List, [], ◌∷◌, ◌++◌, ℕ, ◌+◌, ◌/◌, ◌≤◌, ◌<◌, length, Ok, Err}
use Rattle.std.proofs.lemmas.List.Edits.{sets}
use Rattle.refusals.specs.Numbers.{accepted, number_range}
use Rattle.refusals.specs.Faults.{number_of, fault}
use Rattle.refusals.specs.declared.Refusal.{Refusal}
use Rattle.refusals.specs.declared.Refusal.TheVariants.{InputTooLong, AlreadyEnded}
use Rattle.refusals.specs.Limits.{most_bytes}
use Rattle.grammar.specs.Input.{Bytes}
use Rattle.clearing.specs.Lent.{zeros}
use Rattle.lineentry.specs.Entry.{at_line}
use Rattle.linetable.specs.Walk.{Reading, done, refused, walk}
use Rattle.linetable.specs.Answer.{located, records_of}
use Rattle.piecestate.specs.State.{state_numbers, ended, kept_refusal, sound, refused_state}
use Rattle.piecestate.specs.Answers.{Answer, Left, shut, stuck}
use Rattle.pieces.specs.Calls.{piece, end, begin}

-- the pieces one behind another
abbrev pub joined : List (List ℕ) → List ℕ
joined [] = []
joined (v ∷ vs) = v ++ joined vs

-- their calls, each with the state and the records that the call before left
abbrev pub calls : Left → List (List ℕ) → Left
calls x [] = x
calls x (v ∷ vs) = calls (piece v x.state x.records) vs

abbrev pub end_after : Left → Left
end_after x = end x.state x.records

-- what a call answers, in the documents' numbers
pub record Said : Type 0 where
  pub refusal : ℕ
  pub place : ℕ
  pub from_entries : ℕ
  pub whole : Bool

abbrev pub said : Answer → Said
said (Ok x) = record { refusal = accepted; place = 0; from_entries = x.from_entries; whole = x.whole }
said (Err why) = record { refusal = number_of why.refusal; place = why.place; from_entries = 0; whole = false }

-- a reading of the joined table, as a call answers
abbrev pub as_call : Reading → Said
as_call (done at k whole) = record { refusal = accepted; place = 0; from_entries = k; whole = whole }
as_call (refused number place) = record { refusal = number; place = place; from_entries = 0; whole = false }

-- every table that goes on from these bytes is refused, the one with no more bytes included
abbrev pub EveryRefused : List ℕ → ℕ → ℕ → Type 0
EveryRefused u first count = (v : List ℕ) → (number : ℕ) × (place : ℕ) × (walk count (u ++ v) (at_line first) first 0 count ≡ refused number place)

-- a start with a state and a line of 32 bits, and pieces of bytes that together are at most 16 MiB
pub record Taken (first : ℕ) (s : List ℕ) (vs : List (List ℕ)) : Type 0 where
  pub line : first < 4294967296
  pub numbers : state_numbers ≤ length s
  pub bytes : Bytes (joined vs)
  pub small : length (joined vs) ≤ most_bytes

-- the start and the end of a state and records, whatever they hold
pub record States : Type 0 where
  -- "a call after an accepted final one is 21 at 0": the state after it is of no use
  pub after_end : (v s rs : List ℕ) → state_numbers ≤ length s
      → (piece v (sets s 6 (ended ∷ [])) rs ≡ shut (sets s 6 (ended ∷ [])) rs (fault AlreadyEnded 0)) × (end (sets s 6 (ended ∷ [])) rs ≡ shut (sets s 6 (ended ∷ [])) rs (fault AlreadyEnded 0))
  -- "After a refusal, later calls repeat it, and the records stay zero."
  pub repeats : (v s rs : List ℕ) (number place : ℕ) → state_numbers ≤ length s → kept_refusal number ≡ true
      → (why : Refusal) × ((number_of why ≡ number)
      × ((piece v (refused_state s number place) rs ≡ shut (refused_state s number place) rs (fault why place)) × (end (refused_state s number place) rs ≡ shut (refused_state s number place) rs (fault why place))))
  -- numbers that are no state that a call leaves
  pub other : (v s rs : List ℕ) → state_numbers ≤ length s → sound s ≡ false → (piece v s rs ≡ shut s rs (fault AlreadyEnded 0)) × (end s rs ≡ shut s rs (fault AlreadyEnded 0))
  pub zeros_are_none : (n : ℕ) → sound (zeros n) ≡ false
  -- every state that a call leaves is one
  pub begun : (first count : ℕ) (s rs : List ℕ) → state_numbers ≤ length s → sound (begin first count s rs).state ≡ true
  pub pieced : (v s rs : List ℕ) → state_numbers ≤ length s → Bytes v → sound s ≡ true → sound (piece v s rs).state ≡ true
  pub finished : (s rs : List ℕ) → state_numbers ≤ length s → sound s ≡ true → sound (end s rs).state ≡ true

pub record Promised : Type 0 where
  -- "Locations, totals and "whole" equal those of the joined table", for every cutting; the end's answer and records are those of `sill_locate`
  pub whole_table : (first count : ℕ) (s rs : List ℕ) (vs : List (List ℕ)) → Taken first s vs
      → (said (end_after (calls (begin first count s rs) vs)).answer ≡ as_call (located (joined vs) first count (length rs / 4)))
      × ((end_after (calls (begin first count s rs) vs)).records ≡ records_of (length rs) (located (joined vs) first count (length rs / 4)))
  -- "a piece without bytes before the final call changes nothing"
  pub no_bytes : (first count : ℕ) (s rs : List ℕ) (vs : List (List ℕ)) → Taken first s vs
      → let x = calls (begin first count s rs) vs in piece [] x.state x.records ≡ x
  -- "An 18 comes in the call whose bytes first show it": after each call, 18 is answered exactly if every table that goes on is refused
  pub eighteen : (first count : ℕ) (s rs : List ℕ) (vs : List (List ℕ)) → Taken first s vs → count ≤ length rs / 4
      → ((said (calls (begin first count s rs) vs).answer).refusal ≡ number_range → EveryRefused (joined vs) first count)
      × (EveryRefused (joined vs) first count → (said (calls (begin first count s rs) vs).answer).refusal ≡ number_range)
  -- "pieces above 16 MiB together 14", in the call that passes it, unless refused before
  pub too_long : (first count : ℕ) (s rs : List ℕ) (vs : List (List ℕ)) (v : List ℕ) → Taken first s vs → most_bytes < length (joined vs) + length v
      → let x = calls (begin first count s rs) vs in (said x.answer).refusal ≡ accepted → piece v x.state x.records ≡ stuck x.state x.records (fault InputTooLong 0)
  pub states : States
