-- The refusals of exception tables are numbers of the table, and a refusal leaves the store zero, in reading and in writing. So the exports
-- end. By cases of the definitions. Assumes nothing.
use mathlib.Core.Path.{◌≡◌, refl, ap, ◌∙◌}
use mathlib.Core.List.{List}
use mathlib.Core.Option.{Option, none, some}
use Prim.Native.Nat.{ℕ, ◌/◌, min}
use lib.Dec.{ltb}
use lib.ListN.{length}
use Rattle.std.specs.Prelude.{Result, Ok, Err}
use Rattle.refusals.specs.Faults.{number_of}
use Rattle.refusals.specs.Limits.{most_bytes, nothing}
use Rattle.refusals.specs.declared.Fault.{Fault}
use Rattle.exceptiontable.specs.Entry.{Entry, entries_in}
use Rattle.exceptiontable.specs.Reading.{run_from, delivered, decoded_of}
use Rattle.exceptiontable.specs.Writing.{table_of, encoded_from, held, encoded_of}
use Rattle.sillgarland.specs.Exceptions.{decoded_struct, decoded_as}
use Rattle.sillgarland.specs.declared.exceptions.SillExceptions.{SillExceptions}
use Rattle.promises.specs.Demand1.{Ends, answers, refuses, Zero}
use Rattle.promises.proofs.Numbers.{either, Cleared, TabledStore, tabled}

delivered_cleared : (room : ℕ) (es : List Entry) (stopped : Option Fault) → Cleared room (delivered room es stopped)
delivered_cleared room es none = tt
delivered_cleared room es (some why) = refl

pub decoded_cleared : (table : List ℕ) (room : ℕ) → Cleared room (decoded_of table room)
unfolding decoded_of
decoded_cleared table room =
    let run = run_from (length table) table 0 in
    either (Cleared room) (ltb most_bytes (length table)) _ _ refl
    (either (Cleared room) (ltb (room / 5) (length run.entries)) _ _ refl (delivered_cleared room run.entries run.stopped))

pub decoded_in_table : (table : List ℕ) (room : ℕ) → TabledStore room (decoded_of table room)
decoded_in_table table room = tabled room (decoded_of table room) (decoded_cleared table room)

held_cleared : (room : ℕ) (bytes : List ℕ) (x : Result ℕ Fault) → Cleared room (held room bytes x)
held_cleared room bytes (Ok count) = tt
held_cleared room bytes (Err why) = refl

pub encoded_cleared : (store : List ℕ) (room : ℕ) → Cleared room (encoded_of store room)
unfolding encoded_of
encoded_cleared store room =
    let es = entries_in store 0 (length store / 5) in
    held_cleared room (table_of es) (encoded_from (min room nothing) 0 es)

pub encoded_in_table : (store : List ℕ) (room : ℕ) → TabledStore room (encoded_of store room)
encoded_in_table store room = tabled room (encoded_of store room) (encoded_cleared store room)

-- what the contract says of an outcome gives the end
pub tabled_decoded_ends : (o : Result ℕ Fault × List ℕ) (lent : List ℕ) → TabledStore (length lent) o → (r : SillExceptions) (left : List ℕ) → (r, left) ≡ decoded_as o
    → Ends r (λ count. decoded_struct (Ok count)) (λ number place. record { refusal = number; place = place; count = 0 }) (Zero lent left)
tabled_decoded_ends (Ok count, xs) lent t r left e = answers count (ap (λ x. x.0) e)
tabled_decoded_ends (Err f, xs) lent t r left e = refuses (number_of f.refusal) f.place t.0 (ap (λ x. x.0) e) (ap (λ x. x.1) e ∙ t.1)

-- that the store is zero is enough
pub decoded_ends : (o : Result ℕ Fault × List ℕ) (lent : List ℕ) → Cleared (length lent) o → (r : SillExceptions) (left : List ℕ) → (r, left) ≡ decoded_as o
    → Ends r (λ count. decoded_struct (Ok count)) (λ number place. record { refusal = number; place = place; count = 0 }) (Zero lent left)
decoded_ends o lent z = tabled_decoded_ends o lent (tabled (length lent) o z)
