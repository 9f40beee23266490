-- What is written reads as the same entries; no table that reads as them is shorter; so what is read and written again is never longer
-- and reads the same. Each number's own law (`varint`), four times an entry, and an induction over the entries. Assumes nothing.
use mathlib.Core.Path.{◌≡◌, refl, sym, ap, subst, ◌∙◌}
use mathlib.Core.Bool.{Bool, true, false, cond}
use mathlib.Core.List.{List, [], ◌∷◌, ◌++◌, append_assoc, append-nil}
use mathlib.Core.Option.{Option, none, some}
use Prim.Native.Nat.{ℕ, zero, suc, ◌+◌, ◌*◌, ◌/◌, ◌%◌, ◌^◌, ◌≤◌, ◌<◌}
use native.Mathlib.Nat.{add-zero}
use native.Mathlib.Omega.{arith}
use borrow.Author.Tests.{lt-ltb, le-ltb}
use lib.Dec.{ltb}
use lib.ListN.{length, length-append}
use Rattle.std.specs.Prelude.{Result, Ok, Err, Some, None}
use Rattle.refusals.specs.Faults.{fault}
use Rattle.refusals.specs.declared.Refusal.TheVariants.{DataTooShort, NoMarker}
use Rattle.refusals.specs.declared.Fault.{Fault}
use Rattle.varint.specs.Writing.{big_endian, big_endian_with_start}
use Rattle.varintread.specs.Reading.{Reading, read_varint, read_varint_with_start}
use Rattle.varintread.specs.declared.Found.{Found}
use Rattle.varint.proofs.Groups.{size, size-some}
use Rattle.varint.proofs.Bytes.{length_big, length_big_with_start}
use Rattle.varint.proofs.ReadsBack.{big_endian-reads_back, with_start_reads_back}
use Rattle.varint.proofs.Shortest.{big_endian-shortest, with_start_shortest}
use Rattle.exceptiontable.specs.Entry.{Entry}
use Rattle.exceptiontable.specs.Reading.{entry_of, taken_as, first_number, later_number, and_then, code_from, target_from, size_from, entry_at, Run, ended, go_on, run_from}
use Rattle.exceptiontable.specs.Writing.{code_of, bytes_of, table_of, encoded_from}
use Rattle.exceptiontable.specs.Promised.{Fit, AllFit}
use Rattle.exceptiontable.specs.declared.Handler.{Handler}
use Rattle.exceptiontable.proofs.OneByte.{number}
use Rattle.exceptiontable.proofs.Places.{Placed, entry-placed}
use Rattle.exceptiontable.proofs.Encoding.{entry_size, length-bytes}

-- ---- what is written reads back

-- a number that stands in a table, wherever
later_back : (table before : List ℕ) (at n : ℕ) (after : List ℕ) → table ≡ before ++ (big_endian n ++ after) → at ≡ length before → n < 2 ^ 32
    → later_number table at ≡ number n (at + length (big_endian n))
unfolding later_number
later_back table before at n after t a f = rw (t, a, big_endian-reads_back before n after f)

first_back : (table before : List ℕ) (at n : ℕ) (after : List ℕ) → table ≡ before ++ (big_endian_with_start n ++ after) → at ≡ length before → n < 2 ^ 32
    → first_number table at ≡ number n (at + length (big_endian_with_start n))
unfolding first_number
first_back table before at n after t a f = rw (t, a, with_start_reads_back before n after f)

-- an entry that stands in a table, wherever
entry_back : (table before : List ℕ) (at : ℕ) (e : Entry) (after : List ℕ) → Fit e → table ≡ before ++ (bytes_of e ++ after) → at ≡ length before
    → entry_at table at ≡ Ok (record { start = e.start; size = e.size; target = e.target; depth = e.depth; last = e.last; next = at + length (bytes_of e) })
unfolding entry_at size_from target_from code_from bytes_of
entry_back table before at e after f t a =
    let A = big_endian_with_start e.start in
    let B = big_endian e.size in
    let C = big_endian e.target in
    let D = big_endian (code_of e) in
    let one : table ≡ before ++ (A ++ (B ++ (C ++ (D ++ after)))) = t ∙ simp append_assoc in
    let two : table ≡ (before ++ A) ++ (B ++ (C ++ (D ++ after))) = one ∙ simp append_assoc in
    let three : table ≡ ((before ++ A) ++ B) ++ (C ++ (D ++ after)) = one ∙ simp append_assoc in
    let four : table ≡ (((before ++ A) ++ B) ++ C) ++ (D ++ after) = one ∙ simp append_assoc in
    let code : code_of e < 2 ^ 32 = omega (arith, f.depth, f.last) in
    let half : code_of e / 2 ≡ e.depth = omega (arith, f.last) in
    let bit : code_of e % 2 ≡ e.last = omega (arith, f.last) in
    let end : at + length A + length B + length C + length D ≡ at + length (A ++ (B ++ (C ++ D))) = simp length-append (omega arith) in
    rw (
      first_back table before at e.start (B ++ (C ++ (D ++ after))) one a f.start,
      later_back table (before ++ A) (at + length A) e.size (C ++ (D ++ after)) two (simp length-append (omega arith)) f.size,
      later_back table ((before ++ A) ++ B) (at + length A + length B) e.target (D ++ after) three (simp length-append (omega arith)) f.target,
      later_back table (((before ++ A) ++ B) ++ C) (at + length A + length B + length C) (code_of e) after four (simp length-append (omega arith)) code,
      half,
      bit,
      end,
    )

-- how long a table is in front of which an entry stands
spread : (before : List ℕ) (e : Entry) (es : List Entry)
    → length (before ++ (bytes_of e ++ table_of es)) ≡ length before + (length (bytes_of e) + length (table_of es))
spread before e es = rw (length-append, length-append)

run_back : (bound : ℕ) (table before : List ℕ) (at : ℕ) (es : List Entry) → AllFit es → table ≡ before ++ table_of es → at ≡ length before
    → length table ≤ at + bound → run_from bound table at ≡ record { entries = es; stopped = none }
unfolding run_from table_of
run_back zero table before at [] f t a h = refl
run_back zero table before at (e ∷ es) f t a h =
    absurd (omega (arith, ap length t ∙ spread before e es, length-bytes e, size-some e.start))
run_back (suc bound) table before at [] f t a h =
    let l : length table ≡ at = ap length t ∙ ap length (append-nil before) ∙ sym a in
    rw (le-ltb at (length table) (omega arith))
run_back (suc bound) table before at (e ∷ es) f t a h =
    let l : length table ≡ length before + (length (bytes_of e) + length (table_of es)) = ap length t ∙ spread before e es in
    let b = length-bytes e in
    let s = size-some e.start in
    let n = at + length (bytes_of e) in
    rw (lt-ltb at (length table) (omega arith), entry_back table before at e (table_of es) f.0 t a)
    (ap (λ (r : Run). record { entries = e ∷ r.entries; stopped = r.stopped })
    (run_back bound table (before ++ bytes_of e) n es f.1 (t ∙ sym (append_assoc before (bytes_of e) (table_of es)))
    (ap (λ (k : ℕ). k + length (bytes_of e)) a ∙ sym (length-append before (bytes_of e))) (omega arith)))

-- "a written table reads as the same entries"
pub table_reads_back : (es : List Entry) → AllFit es → run_from (length (table_of es)) (table_of es) 0 ≡ record { entries = es; stopped = none }
table_reads_back es f = run_back (length (table_of es)) (table_of es) [] 0 es f refl refl (omega arith)

-- ---- the shortest form

-- An entry whose four numbers, written after a place, would end where the reading did or before, but for so many bytes.
abbrev Short : ℕ → ℕ → Result Handler Fault → Type 0
Short at over (Ok h) = at + entry_size (entry_of h) ≤ h.next + over
Short at over (Err why) = Unit {0}

short_less : (at over at' over' : ℕ) (r : Result Handler Fault) → at + over' ≤ at' + over → Short at' over' r → Short at over r
short_less at over at' over' (Ok h) l k = omega arith
short_less at over at' over' (Err why) l k = tt

-- a number is no shorter than it is written
abbrev NoLonger : ℕ → Result Found Fault → Type 0
NoLonger at (Ok f) = at + size f.value ≤ f.next
NoLonger at (Err why) = Unit {0}

later_short : (table : List ℕ) (at : ℕ) → NoLonger at (later_number table at)
unfolding later_number
later_short table at = go (read_varint table at) refl
  where
    go : (r : Reading) → read_varint table at ≡ r → NoLonger at (taken_as (fault DataTooShort (length table)) r)
    go (Ok (Some f)) e = omega (arith, big_endian-shortest table at f.value f.next e, length_big f.value)
    go (Ok None) e = tt
    go (Err why) e = tt

first_short : (table : List ℕ) (at : ℕ) → NoLonger at (first_number table at)
unfolding first_number
first_short table at = go (read_varint_with_start table at) refl
  where
    go : (r : Reading) → read_varint_with_start table at ≡ r → NoLonger at (taken_as (fault NoMarker at) r)
    go (Ok (Some f)) e = omega (arith, with_start_shortest table at f.value f.next e, length_big_with_start f.value)
    go (Ok None) e = tt
    go (Err why) e = tt

then-short : (at over : ℕ) (t : Result Found Fault) (k : ℕ → ℕ → Result Handler Fault) → NoLonger at t
    → ((value next : ℕ) → at + size value ≤ next → Short at over (k value next)) → Short at over (and_then t k)
then-short at over (Ok x) k n f = f x.value x.next n
then-short at over (Err why) k n f = tt

module _ (table : List ℕ) where
  code-short : (at start size' target : ℕ) → Short at (size start + size size' + size target) (code_from table at start size' target)
  unfolding code_from
  code-short at start size' target =
      then-short at (size start + size size' + size target) (later_number table at) _ (later_short table at) (λ code next l.
      let e : code / 2 * 2 + code % 2 ≡ code = omega arith in rw e (omega arith))

  target-short : (at start size' : ℕ) → Short at (size start + size size') (target_from table at start size')
  unfolding target_from
  target-short at start size' =
      then-short at (size start + size size') (later_number table at) _ (later_short table at) (λ target next l.
      short_less at (size start + size size') next (size start + size size' + size target) (code_from table next start size' target) (omega arith)
      (code-short next start size' target))

  size-short : (at start : ℕ) → Short at (size start) (size_from table at start)
  unfolding size_from
  size-short at start =
      then-short at (size start) (later_number table at) _ (later_short table at) (λ size' next l.
      short_less at (size start) next (size start + size size') (target_from table next start size') (omega arith) (target-short next start size'))

  entry-short : (at : ℕ) → Short at 0 (entry_at table at)
  unfolding entry_at
  entry-short at =
      then-short at 0 (first_number table at) _ (first_short table at) (λ start next l.
      short_less at 0 next (size start) (size_from table next start) (omega arith) (size-short next start))

  more_short : (at next : ℕ) (e : Entry) (es : List Entry) → at + entry_size e ≤ next → next + length (table_of es) ≤ length table
      → at + length (table_of (e ∷ es)) ≤ length table
  unfolding table_of
  more_short at next e es h k = omega (arith, length-append (bytes_of e) (table_of es), length-bytes e)

  none_short : (at : ℕ) → at ≤ length table → at + length (table_of []) ≤ length table
  unfolding table_of
  none_short at h = omega arith

  -- Entries that were read to the table's end would be written in no more bytes than they took, and each can be written.
  pub run-told : (bound at : ℕ) (es : List Entry) → at ≤ length table → run_from bound table at ≡ record { entries = es; stopped = none }
      → (at + length (table_of es) ≤ length table) × AllFit es
  unfolding run_from
  run-told zero at es h e = subst (λ (l : List Entry). (at + length (table_of l) ≤ length table) × AllFit l) (ap (λ (r : Run). r.entries) e) (none_short at h, tt)
  run-told (suc bound) at es h e = go (ltb at (length table)) refl e (run-told bound)
    where
      whole : (x : Result Handler Fault) → Short at 0 x → Placed (length table) at x
          → ((i : ℕ) (l : List Entry) → i ≤ length table → run_from bound table i ≡ record { entries = l; stopped = none }
          → (i + length (table_of l) ≤ length table) × AllFit l)
          → go_on x (run_from bound table) ≡ record { entries = es; stopped = none } → (at + length (table_of es) ≤ length table) × AllFit es
      whole (Ok h) short placed i c =
          let r = run_from bound table h.next in
          let stop : r.stopped ≡ none = ap (λ (q : Run). q.stopped) c in
          let told = i h.next r.entries placed.1 (ap (λ (o : Option Fault). record { entries = r.entries; stopped = o }) stop) in
          subst (λ (l : List Entry). (at + length (table_of l) ≤ length table) × AllFit l) (ap (λ (q : Run). q.entries) c)
          (more_short at h.next (entry_of h) r.entries (omega (arith, short)) told.0, (placed.2, told.1))
      whole (Err why) short placed i c =
          let stop : ◌≡◌ {A = Option Fault} (some why) none = ap (λ (q : Run). q.stopped) c in
          let z : ◌≡◌ {A = ℕ} 0 1 = cc in
          absurd (omega arith)

      go : (t : Bool) → ltb at (length table) ≡ t
          → cond t (go_on (entry_at table at) (run_from bound table)) ended ≡ record { entries = es; stopped = none }
          → ((i : ℕ) (l : List Entry) → i ≤ length table → run_from bound table i ≡ record { entries = l; stopped = none }
          → (i + length (table_of l) ≤ length table) × AllFit l)
          → (at + length (table_of es) ≤ length table) × AllFit es
      go true d c i = whole (entry_at table at) (entry-short at) (entry-placed table at) i c
      go false d c i = subst (λ (l : List Entry). (at + length (table_of l) ≤ length table) × AllFit l) (ap (λ (r : Run). r.entries) c) (none_short at h, tt)

  -- no table that reads as those entries is shorter than the one that they are written as
  pub table_shortest : (es : List Entry) → run_from (length table) table 0 ≡ record { entries = es; stopped = none } → length (table_of es) ≤ length table
  table_shortest es e = omega (arith, (run-told (length table) 0 es (omega arith) e).0)

  -- what is read and written again is never longer, and reads the same
  pub written-again : (es : List Entry) → run_from (length table) table 0 ≡ record { entries = es; stopped = none }
      → (length (table_of es) ≤ length table) × (run_from (length (table_of es)) (table_of es) 0 ≡ record { entries = es; stopped = none })
  written-again es e = (table_shortest es e, table_reads_back es (run-told (length table) 0 es (omega arith) e).1)

-- entries that fit are written where there is room
pub fit_written : (most used : ℕ) (es : List Entry) → AllFit es → used + length (table_of es) ≤ most
    → encoded_from most used es ≡ Ok (used + length (table_of es))
unfolding encoded_from table_of
fit_written most used [] f h = rw add-zero
fit_written most used (e ∷ es) f h =
    let l : length (bytes_of e ++ table_of es) ≡ length (bytes_of e) + length (table_of es) = length-append (bytes_of e) (table_of es) in
    let n : used + length (bytes_of e) + length (table_of es) ≡ used + length (bytes_of e ++ table_of es) = omega (arith, l) in
    rw (lt-ltb e.depth (2 ^ 31) f.0.depth, lt-ltb e.last 2 f.0.last, le-ltb most (used + length (bytes_of e)) (omega (arith, l)))
    (fit_written most (used + length (bytes_of e)) es f.1 (omega (arith, l)) ∙ ap Ok n)
