-- 02, K6: what is kept between the calls of a reading by piece, as numbers of a lent store, and which numbers are a state that a call leaves.
-- "The first line and instruction count are fixed at the start."
use Rattle.std.specs.Prelude.{Bool, true, false, not, ◌||◌, cond, List, [], ◌∷◌, map, ℕ, ◌-◌, ◌%◌, length, take, drop, get_or, leb, ltb, eqb}
use Rattle.std.proofs.lemmas.List.Edits.{sets}
use Rattle.refusals.specs.Numbers.{input_too_long, no_room, number_range}
use Rattle.refusals.specs.Limits.{most_bytes}
use Rattle.refusals.specs.declared.Refusal.{Refusal}
use Rattle.refusals.specs.declared.Refusal.TheVariants.{InputTooLong, NoRoom, NumberRange}
use Rattle.lineentry.specs.declared.Entry.{Entry}
use Rattle.lineentry.specs.declared.Entry.TheVariants.{Covers, Stop, OutOfRange}
use Rattle.lineentry.specs.Entry.{entry_at}
use Rattle.lostentry.specs.Lost.{lost}
use Rattle.piecestate.specs.declared.Kept.{Kept}

-- how many numbers a state has, and how many bytes of an entry that is not complete it holds at most
abbrev pub state_numbers : ℕ
state_numbers = 40

abbrev pub most_held : ℕ
most_held = 25

-- Where a reading stands: it goes on; nothing more is read, since a byte stops it or an entry ran past the count; it was refused; it has ended.
abbrev pub going : ℕ
going = 1

abbrev pub over : ℕ
over = 2

abbrev pub refusing : ℕ
refusing = 3

abbrev pub ended : ℕ
ended = 4

-- The numbers of a state, in their order: the first line and the count; the line, the instructions placed and the place after the complete
-- entries; the bytes so far; where the reading stands; the refusal and its place; how many bytes are held.
abbrev pub kept_at : List ℕ → Kept
kept_at s =
    record {
      first = get_or s 0 0;
      count = get_or s 1 0;
      line = get_or s 2 0;
      placed = get_or s 3 0;
      start = get_or s 4 0;
      bytes = get_or s 5 0;
      status = get_or s 6 0;
      refusal = get_or s 7 0;
      place = get_or s 8 0;
      size = get_or s 9 0;
    }

-- a number as a byte
abbrev pub low : ℕ → ℕ
low x = x % 256

-- and behind them the bytes of the entry that is not complete
abbrev pub held_in : List ℕ → ℕ → List ℕ
held_in s n = map low (take n (drop 10 s))

unfoldable pub held_at : List ℕ → List ℕ
held_at s = held_in s (get_or s 9 0)

-- ---- which numbers are a state
-- bytes of an entry that is not complete and not lost
abbrev pub open_as : List ℕ → ℕ → Entry → Bool
open_as held line (Covers e) = e.missing
open_as held line Stop = false
open_as held line OutOfRange = not (lost held line)

unfoldable pub open_entry : List ℕ → ℕ → Bool
open_entry held line = open_as held line (entry_at held line 0)

-- the counts of a reading that was not refused
unfoldable pub counted : Kept → Bool
counted k = cond (ltb k.count k.placed) false (leb k.bytes most_bytes)

unfoldable pub sound_going : List ℕ → Kept → Bool
sound_going s k =
    cond (counted k)
    (cond (ltb most_held k.size) false
    (cond (ltb k.bytes k.start) false
    (cond (ltb (k.bytes - k.start) k.size) false
    (cond (eqb k.size 0) true (open_entry (held_in s k.size) k.line)))))
    false

-- 14, 17 and 18 are what a call may refuse with and keep
abbrev pub kept_refusal : ℕ → Bool
kept_refusal n = eqb n input_too_long || (eqb n no_room || eqb n number_range)

-- which of the three it is
abbrev pub kept_why : ℕ → Refusal
kept_why n = cond (eqb n input_too_long) InputTooLong (cond (eqb n no_room) NoRoom NumberRange)

unfoldable pub sound_by : List ℕ → Kept → Bool
sound_by s k =
    cond (eqb k.status going) (sound_going s k)
    (cond (eqb k.status over) (counted k)
    (cond (eqb k.status refusing) (kept_refusal k.refusal) (eqb k.status ended)))

-- All zeros are none.
abbrev pub sound : List ℕ → Bool
sound s = sound_by s (kept_at s)

-- ---- what a call stores
-- a refusal: where the reading stands, the refusal and its place
abbrev pub refused_state : List ℕ → ℕ → ℕ → List ℕ
refused_state s number place = sets s 6 (refusing ∷ number ∷ place ∷ [])

-- the line, the instructions placed and the place after the complete entries, the bytes so far, where the reading stands, and the bytes held
abbrev pub advanced : List ℕ → ℕ → ℕ → ℕ → ℕ → ℕ → List ℕ → List ℕ
advanced s line placed at bytes status held = sets (sets s 2 (line ∷ placed ∷ at ∷ bytes ∷ status ∷ [])) 9 (length held ∷ held)
