-- What holds at each turn of the reading's loop: the entries still to come make the same answer and the same store.
-- Assumes nothing.
use mathlib.Core.Path.{◌≡◌, refl, sym, ap, subst, ◌∙◌}
use mathlib.Core.Bool.{Bool, true, false, cond}
use mathlib.Core.List.{List, [], ◌∷◌}
use mathlib.Core.Option.{Option, none, some}
use Prim.Native.Nat.{ℕ, zero, suc, ◌+◌, ◌*◌, ◌/◌, ◌≤◌, ◌<◌}
use native.Mathlib.Nat.{add-zero, zero-add}
use native.Mathlib.Omega.{arith}
use borrow.Author.Tests.{ltb-false, lt-ltb, le-ltb}
use lib.Dec.{ltb}
use lib.ListN.{length}
use lib.Seq.{sets, length-sets}
use Rattle.std.specs.Prelude.{Result, Ok, Err}
use Rattle.refusals.specs.Faults.{fault, refused}
use Rattle.refusals.specs.declared.Refusal.TheVariants.{NoRoom, InputTooLong}
use Rattle.refusals.specs.declared.Fault.{Fault}
use Rattle.refusals.specs.Limits.{most_bytes}
use Rattle.clearing.specs.Lent.{zeros}
use Rattle.clearing.specs.Refused.{unless_refused}
use Rattle.clearing.proofs.Laws.{sets-padded}
use Rattle.exceptiontable.specs.Entry.{Entry, numbers, flat}
use Rattle.exceptiontable.specs.Reading.{Run, entry_of, with_entry, go_on, entry_at, run_from, delivered, in_room, decoded_of}
use Rattle.exceptiontable.specs.declared.Handler.{Handler}
use Rattle.exceptiontable.proofs.Places.{Placed, entry-placed}

length-flat : (es : List Entry) → length (flat es) ≡ 5 * length es
unfolding flat
length-flat [] = refl
length-flat (e ∷ es) = omega (arith, length-flat es)

-- what the entries still to come make, over a store that holds so many
abbrev rest : ℕ → List ℕ → ℕ → List Entry → Option Fault → Result ℕ Fault × List ℕ
rest room out count es none = (Ok (count + length es), sets out (5 * count) (flat es))
rest room out count es (some why) = (Err why, zeros room)

abbrev pub from_here : ℕ → List ℕ → ℕ → Run → Result ℕ Fault × List ℕ
from_here room out count run =
    cond (ltb (room / 5) (count + length run.entries)) (refused NoRoom (room / 5), zeros room)
    (rest room out count run.entries run.stopped)

pub record DecodedSoFar (table : List ℕ) (room : ℕ) (out : List ℕ) (at count : ℕ) : Type 0 where
  pub bound : ℕ
  pub enough : length table ≤ at + bound
  pub comes : from_here room out count (run_from bound table at) ≡ in_room room (run_from (length table) table 0)
  pub within : at ≤ length table
  pub held : count ≤ room / 5
  pub few : count ≤ at
  pub same : length out ≡ room

start_rest : (room : ℕ) (es : List Entry) (stopped : Option Fault) → length es ≤ room / 5
    → rest room (zeros room) 0 es stopped ≡ delivered room es stopped
start_rest room es none h = rw (zero-add, sets-padded room (flat es) (omega (arith, length-flat es)))
start_rest room es (some why) h = refl

pub decoded_start : (table out : List ℕ) → out ≡ zeros (length out) → DecodedSoFar table (length out) out 0 0
decoded_start table out z =
    record {
      bound = length table;
      enough = omega arith;
      comes =
          ap (λ (o : List ℕ). from_here (length out) o 0 (run_from (length table) table 0)) z
          ∙ go (length out) (run_from (length table) table 0) (ltb (length out / 5) (length (run_from (length table) table 0).entries)) refl;
      within = omega arith;
      held = omega arith;
      few = omega arith;
      same = refl;
    }
  where
    go : (room : ℕ) (run : Run) (t : Bool) → ltb (room / 5) (length run.entries) ≡ t → from_here room (zeros room) 0 run ≡ in_room room run
    go room run true e = rw (zero-add, e)
    go room run false e = rw (zero-add, e) (start_rest room run.entries run.stopped (ltb-false _ _ e))

-- one entry more in the store is one less to come
rest_more : (room : ℕ) (out : List ℕ) (count : ℕ) (e : Entry) (es : List Entry) (stopped : Option Fault)
    → rest room (sets out (5 * count) (numbers e)) (count + 1) es stopped ≡ rest room out count (e ∷ es) stopped
unfolding flat
rest_more room out count e es none =
    let i : 5 * (count + 1) ≡ suc (suc (suc (suc (suc (5 * count))))) = omega arith in
    let n : count + 1 + length es ≡ count + suc (length es) = omega arith in
    rw (i, n)
rest_more room out count e es (some why) = refl

-- the answer, where the table is not too long
pub decoded_as_lem : (table : List ℕ) (room : ℕ) {x : Result ℕ Fault × List ℕ} → length table ≤ most_bytes
    → x ≡ in_room room (run_from (length table) table 0) → x ≡ decoded_of table room
unfolding decoded_of
decoded_as_lem table room h k = k ∙ rw (le-ltb most_bytes (length table) h)

pub decoded_long : (table : List ℕ) (room : ℕ) {why : Fault} → most_bytes < length table → why ≡ fault InputTooLong 0
    → (Err why, zeros room) ≡ decoded_of table room
unfolding decoded_of
decoded_long table room h f = rw (lt-ltb most_bytes (length table) h, f)

module _ {table : List ℕ} {room : ℕ} {out : List ℕ} {at count : ℕ} (k : DecodedSoFar table room out at count) where
  -- the reading from here on, where bytes are left
  next_run : at < length table → (b : ℕ) → k.bound ≡ suc b → run_from k.bound table at ≡ go_on (entry_at table at) (run_from b table)
  unfolding run_from
  next_run h b e = rw (e, lt-ltb at (length table) h)

  bound_some : at < length table → (b : ℕ) × (k.bound ≡ suc b)
  bound_some h = go k.bound refl
    where
      go : (n : ℕ) → k.bound ≡ n → (b : ℕ) × (k.bound ≡ suc b)
      go zero e = absurd (omega (arith, k.enough))
      go (suc b) e = (b, e)

  pub decoded_stop : {why : Fault} {answer : Result ℕ Fault} → at < length table → Err why ≡ entry_at table at
      → answer ≡ Err why → (answer, unless_refused answer out) ≡ in_room room (run_from (length table) table 0)
  decoded_stop {why} h e f =
      let b = bound_some h in
      let r : run_from k.bound table at ≡ record { entries = []; stopped = some why } =
      next_run h b.0 b.1 ∙ rw (← e) refl
      in
      rw (f, k.same) (rw (r, le-ltb (room / 5) (count + 0) (omega (arith, k.held))) at k.comes)

  module _ {h : Handler} (l : at < length table) (e : Ok h ≡ entry_at table at) where
    whole_run : (b : ℕ) → k.bound ≡ suc b
        → run_from k.bound table at ≡ with_entry (entry_of h) (run_from b table h.next)
    whole_run b d = next_run l b d ∙ rw (← e) refl

    pub decoded_full : {why : Fault} → length out / 5 ≤ count → why ≡ fault NoRoom count
        → (Err why, zeros (length out)) ≡ in_room room (run_from (length table) table 0)
    decoded_full g w =
        let b = bound_some l in
        let f : room / 5 ≤ count = rw k.same at g in
        let c : count ≡ room / 5 = omega (arith, k.held) in
        let r = whole_run b.0 b.1 in
        rw (w, k.same, c) (rw (r, lt-ltb (room / 5) (count + suc (length (run_from b.0 table h.next).entries)) (omega arith)) at k.comes)

    pub placed : Placed (length table) at (Ok h)
    placed = subst (Placed (length table) at) (sym e) (entry-placed table at)

    pub decoded_turn : {left : List ℕ} → count < length out / 5 → left ≡ sets out (5 * count) (numbers (entry_of h))
        → DecodedSoFar table room left h.next (count + 1)
    decoded_turn {left} g s =
        let b = bound_some l in
        let f : count < room / 5 = rw k.same at g in
        let r = whole_run b.0 b.1 in
        let p = placed in
        let n : count + 1 + length (run_from b.0 table h.next).entries ≡ count + suc (length (run_from b.0 table h.next).entries) = omega arith in
        record {
          bound = b.0;
          enough = omega (arith, k.enough, b.1, p.0);
          comes =
              rw (s, n, rest_more room out count (entry_of h) (run_from b.0 table h.next).entries (run_from b.0 table h.next).stopped)
              (rw r at k.comes);
          within = p.1;
          held = omega arith;
          few = omega (arith, k.few, p.0);
          same = rw s (length-sets out (5 * count) (numbers (entry_of h)) ∙ k.same);
        }

  pub decoded_end : length table ≤ at → (Ok count, out) ≡ in_room room (run_from (length table) table 0)
  unfolding run_from flat
  decoded_end h = go k.bound k.comes
    where
      go : (b : ℕ) → from_here room out count (run_from b table at) ≡ in_room room (run_from (length table) table 0)
          → (Ok count, out) ≡ in_room room (run_from (length table) table 0)
      go zero c = rw (le-ltb (room / 5) (count + 0) (omega (arith, k.held)), add-zero) at c
      go (suc b) c = rw (le-ltb at (length table) h, le-ltb (room / 5) (count + 0) (omega (arith, k.held)), add-zero) at c
