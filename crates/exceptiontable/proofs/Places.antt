-- Where a number of a table is refused, and what is known of one that is there: it fits, and ends within the table.
-- So it is of an entry. Assumes nothing.
use mathlib.Core.Path.{◌≡◌, refl}
use mathlib.Core.Bool.{Bool, true, false, cond}
use mathlib.Core.List.{List}
use Prim.Native.Nat.{ℕ, ◌^◌, ◌≤◌, ◌<◌}
use native.Mathlib.Omega.{arith}
use borrow.Author.Tests.{ltb-true}
use lib.Dec.{ltb}
use lib.ListN.{length, drop}
use Rattle.varintread.specs.Reading.{Reading, nothing, read_groups, read_varint, read_varint_with_start}
use Rattle.varintread.specs.declared.Found.{Found}
use Rattle.varintread.specs.declared.Unread.{Unread}
use Rattle.std.specs.Prelude.{Result, Ok, Err, Some, None, IfErr}
use Rattle.refusals.specs.Limits.{most_bytes}
use Rattle.refusals.specs.declared.Fault.{Fault}
use Rattle.varintread.proofs.Refusals.{Told, varint_told, with_start_told}
use Rattle.exceptiontable.specs.Reading.{entry_of, taken_as, first_number, later_number, and_then, code_from, target_from, size_from, entry_at}
use Rattle.exceptiontable.specs.Promised.{Fit}
use Rattle.exceptiontable.specs.declared.Handler.{Handler}

pub start_place : (table : List ℕ) (at : ℕ) {why : Unread} → read_varint_with_start table at ≡ Err why → why.place ≡ at
start_place table at {why} e =
    let t : Told (length table) at at (Err why) = rw e at (with_start_told table at) in
    t.0

pub later_place : (table : List ℕ) (at : ℕ) {why : Unread} → read_varint table at ≡ Err why → why.place < length table
unfolding read_varint
later_place table at {why} e = go (ltb at (length table)) refl (rw e at (varint_told table at)) e
  where
    go : (t : Bool) → ltb at (length table) ≡ t → Told (length table) at at (Err why)
        → cond t (read_groups at 0 at (drop at table)) nothing ≡ Err why → why.place < length table
    go true d told e = omega (arith, ltb-true at (length table) d, told.0)
    go false d told e = let z : ◌≡◌ {A = ℕ} 0 1 = cc in absurd (omega arith)

-- a refused number's place counts in 32 bits
pub start_placed : (table : List ℕ) (at : ℕ) → at ≤ most_bytes → IfErr (read_varint_with_start table at) (λ (why : Unread). why.place ≤ most_bytes)
start_placed table at h = go (read_varint_with_start table at) refl
  where
    go : (r : Reading) → read_varint_with_start table at ≡ r → IfErr r (λ (why : Unread). why.place ≤ most_bytes)
    go (Ok f) e = tt
    go (Err why) e = omega (arith, start_place table at e)

pub later_placed : (table : List ℕ) (at : ℕ) → length table ≤ most_bytes → IfErr (read_varint table at) (λ (why : Unread). why.place ≤ most_bytes)
later_placed table at h = go (read_varint table at) refl
  where
    go : (r : Reading) → read_varint table at ≡ r → IfErr r (λ (why : Unread). why.place ≤ most_bytes)
    go (Ok f) e = tt
    go (Err why) e = omega (arith, later_place table at e)

-- a number that is taken
abbrev Number : ℕ → ℕ → Result Found Fault → Type 0
Number count at (Ok f) = (f.value < 2 ^ 32) × (at < f.next) × (f.next ≤ count)
Number count at (Err why) = Unit {0}

taken_told : (count at : ℕ) (missing : Fault) (r : Reading) → Told count at at r → Number count at (taken_as missing r)
taken_told count at missing (Ok (Some f)) h = h
taken_told count at missing (Ok None) h = tt
taken_told count at missing (Err why) h = tt

later_told : (table : List ℕ) (at : ℕ) → Number (length table) at (later_number table at)
unfolding later_number
later_told table at = taken_told (length table) at _ (read_varint table at) (varint_told table at)

first_told : (table : List ℕ) (at : ℕ) → Number (length table) at (first_number table at)
unfolding first_number
first_told table at = taken_told (length table) at _ (read_varint_with_start table at) (with_start_told table at)

-- an entry that is read fits, and ends behind its place within the table
abbrev pub Placed : ℕ → ℕ → Result Handler Fault → Type 0
Placed count at (Ok h) = (at < h.next) × (h.next ≤ count) × Fit (entry_of h)
Placed count at (Err why) = Unit {0}

placed_later : (count at at' : ℕ) (r : Result Handler Fault) → at < at' → Placed count at' r → Placed count at r
placed_later count at at' (Ok h) l p = (omega (arith, p.0), p.1, p.2)
placed_later count at at' (Err why) l p = tt

-- a number, and what comes of it
then-placed : (count at : ℕ) (t : Result Found Fault) (k : ℕ → ℕ → Result Handler Fault) → Number count at t
    → ((value next : ℕ) → value < 2 ^ 32 → at < next → next ≤ count → Placed count at (k value next)) → Placed count at (and_then t k)
then-placed count at (Ok x) k n f = f x.value x.next n.0 n.1 n.2
then-placed count at (Err why) k n f = tt

module _ (table : List ℕ) where
  code-placed : (at start size target : ℕ) → start < 2 ^ 32 → size < 2 ^ 32 → target < 2 ^ 32
      → Placed (length table) at (code_from table at start size target)
  unfolding code_from
  code-placed at start size target a b c =
      then-placed (length table) at (later_number table at) _ (later_told table at) (λ code next v l w.
      (l, w, record { start = a; size = b; target = c; depth = omega arith; last = omega arith }))

  target-placed : (at start size : ℕ) → start < 2 ^ 32 → size < 2 ^ 32 → Placed (length table) at (target_from table at start size)
  unfolding target_from
  target-placed at start size a b =
      then-placed (length table) at (later_number table at) _ (later_told table at) (λ target next v l w.
      placed_later (length table) at next (code_from table next start size target) l (code-placed next start size target a b v))

  size-placed : (at start : ℕ) → start < 2 ^ 32 → Placed (length table) at (size_from table at start)
  unfolding size_from
  size-placed at start a =
      then-placed (length table) at (later_number table at) _ (later_told table at) (λ size next v l w.
      placed_later (length table) at next (target_from table next start size) l (target-placed next start size a v))

  pub entry-placed : (at : ℕ) → Placed (length table) at (entry_at table at)
  unfolding entry_at
  entry-placed at =
      then-placed (length table) at (first_number table at) _ (first_told table at) (λ start next v l w.
      placed_later (length table) at next (size_from table next start) l (size-placed next start v))
