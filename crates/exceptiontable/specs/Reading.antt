-- What an exception table reads as: 02, K1, over the big-endian varints of `varint`, with K5.
-- CPython, InternalDocs/exception_handling.md, the format of the table: an entry is four varints, and its first byte has the start bit.
use Rattle.std.specs.Prelude.{ℕ, zero, suc, ◌/◌, ◌%◌, cond, List, [], ◌∷◌, ltb, length, Result, Ok, Err, Some, None}
use Rattle.std.proofs.Math.Option.{Option, none, some}
use Rattle.refusals.specs.Faults.{fault, refused}
use Rattle.refusals.specs.declared.Refusal.TheVariants.{DataTooShort, InputTooLong, NoRoom, NoMarker}
use Rattle.refusals.specs.declared.Fault.{Fault}
use Rattle.refusals.specs.Limits.{most_bytes}
use Rattle.clearing.specs.Lent.{zeros, padded}
use Rattle.varintread.specs.Reading.{Reading, read_varint, read_varint_with_start}
use Rattle.varintread.specs.declared.Found.{Found}
use Rattle.exceptiontable.specs.Entry.{Entry, flat}
use Rattle.exceptiontable.specs.declared.Handler.{Handler}

-- A varint's answer, where "none" is a refusal with a number and a place of its own.
abbrev pub taken_as : Fault → Reading → Result Found Fault
taken_as missing (Ok (Some f)) = Ok f
taken_as missing (Ok None) = Err missing
taken_as missing (Err why) = refused why.refusal why.place

-- "the first with the start marker": "a missing marker is 19 at the entry"
unfoldable pub first_number : List ℕ → ℕ → Result Found Fault
first_number table at = taken_as (fault NoMarker at) (read_varint_with_start table at)

-- "no byte for a later varint 2 at the table's end"
unfoldable pub later_number : List ℕ → ℕ → Result Found Fault
later_number table at = taken_as (fault DataTooShort (length table)) (read_varint table at)

-- a number, then what comes of it and the place behind it; or the refusal
abbrev pub and_then : Result Found Fault → (ℕ → ℕ → Result Handler Fault) → Result Handler Fault
and_then (Ok f) k = k f.value f.next
and_then (Err why) k = Err why

-- "depth x 2 plus the last-instruction bit"
abbrev pub whole_entry : ℕ → ℕ → ℕ → ℕ → ℕ → Result Handler Fault
whole_entry start size target code next =
    Ok (record { start = start; size = size; target = target; depth = code / 2; last = code % 2; next = next })

-- "four big-endian varints an entry": the last of them, the last two, the last three, and all
unfoldable pub code_from : List ℕ → ℕ → ℕ → ℕ → ℕ → Result Handler Fault
unfolding later_number
code_from table at start size target = and_then (later_number table at) (whole_entry start size target)

unfoldable pub target_from : List ℕ → ℕ → ℕ → ℕ → Result Handler Fault
unfolding later_number code_from
target_from table at start size = and_then (later_number table at) (λ target next. code_from table next start size target)

unfoldable pub size_from : List ℕ → ℕ → ℕ → Result Handler Fault
unfolding later_number target_from
size_from table at start = and_then (later_number table at) (λ size next. target_from table next start size)

unfoldable pub entry_at : List ℕ → ℕ → Result Handler Fault
unfolding first_number size_from
entry_at table at = and_then (first_number table at) (λ start next. size_from table next start)

-- The entries that are whole, in order, and the refusal that stopped the reading, if one did.
pub record Run : Type 0 where
  pub entries : List Entry
  pub stopped : Option Fault

abbrev pub ended : Run
ended = record { entries = []; stopped = none }

-- the entry of a reading
abbrev pub entry_of : Handler → Entry
entry_of h = record { start = h.start; size = h.size; target = h.target; depth = h.depth; last = h.last }

abbrev pub with_entry : Entry → Run → Run
with_entry e run = record { entries = e ∷ run.entries; stopped = run.stopped }

abbrev pub go_on : Result Handler Fault → (ℕ → Run) → Run
go_on (Ok h) k = with_entry (entry_of h) (k h.next)
go_on (Err why) k = record { entries = []; stopped = some why }

-- Entry after entry to the table's end. The first argument only bounds the recursion: each entry takes a byte.
unfoldable pub run_from : ℕ → List ℕ → ℕ → Run
unfolding entry_at
run_from zero table at = ended
run_from (suc bound) table at = cond (ltb at (length table)) (go_on (entry_at table at) (run_from bound table)) ended

-- What the answer is and what the lent store holds: "store full .. 17", at the capacity in entries.
abbrev pub delivered : ℕ → List Entry → Option Fault → Result ℕ Fault × List ℕ
delivered room es none = (Ok (length es), padded room (flat es))
delivered room es (some why) = (Err why, zeros room)

-- "Entries fill a lent store, each read whole before its room is tested": the first entry beyond the room is refused, unless an
-- entry before it is, or it itself.
abbrev pub in_room : ℕ → Run → Result ℕ Fault × List ℕ
in_room room run = cond (ltb (room / 5) (length run.entries)) (refused NoRoom (room / 5), zeros room) (delivered room run.entries run.stopped)

unfoldable pub decoded_of : List ℕ → ℕ → Result ℕ Fault × List ℕ
unfolding run_from flat padded
decoded_of table room =
    cond (ltb most_bytes (length table)) (refused InputTooLong 0, zeros room) (in_room room (run_from (length table) table 0))
