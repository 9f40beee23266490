-- Appended bytes, up to 16 MiB in all, change only refusals 1 and 2; and the fuel of the definition never ends first.
-- Both are the law of Extension: once with s ++ t beside s, once with s beside itself. Assumes nothing.
use mathlib.Core.Path.{◌≡◌, refl, sym, ap, ◌∙◌}
use Prim.Native.Nat.{ℕ, ◌+◌, ◌≤◌}
use native.Mathlib.Omega.{arith}
use mathlib.Core.Bool.{Bool, true, false, cond}
use mathlib.Core.List.{List, ◌++◌}
use lib.ListN.{length, drop, length-append, get_or-append}
use lib.Seq.{take-append-le}
use lib.Dec.{leb}
use Rattle.refusals.specs.Limits.{most_bytes}
use Rattle.grammar.specs.Reading.{Reading, done, refused, claim, stops}
use Rattle.grammar.specs.Room.{Rooms, room_for, number_of, run}
use Rattle.grammar.specs.State.{State, start}
use Rattle.grammar.specs.Steps.{value}
use Rattle.grammar.specs.Answer.{plain, rooms_of, reading, outcome_of, read_of}
use Rattle.grammar.specs.Counted.{Uncut}
use Rattle.grammar.proofs.Extension.{uncut, even, Ext, IsFrontOf, On, value_ext}
use Rattle.grammar.proofs.Exactness.{within-room}

appended : (s t : List ℕ) → IsFrontOf s (s ++ t)
appended s t =
    record {
      longer = omega (arith, length-append s t);
      byte = λ i h. get_or-append s t 0 i h;
      part = λ i n h. ap (drop i) (take-append-le (i + n) s t h);
    }

itself : (s : List ℕ) → IsFrontOf s s
itself s = record { longer = omega arith; byte = λ i h. refl; part = λ i n h. refl }

run_ext : {A : Type 0} (E : Type 0) (P : A → Type 0) (R : Rooms) (m m' : Reading A) → Ext E P m m' → Uncut (run R m) → run R m' ≡ run R m
unfolding run
run_ext E P R (done x) m' e whole = rw e.1 refl
run_ext E P R (refused n p) m' e whole = rw (e (uncut (whole n p refl))) refl
run_ext E P R (claim k need p m) m' e whole = rw e.1 (go (leb need (room_for R k)) whole (λ w. run_ext E P R m e.0 e.2 w))
  where
    go : (b : Bool) → Uncut (cond b (run R m) (stops (number_of k) p)) → (Uncut (run R m) → run R e.0 ≡ run R m)
        → cond b (run R e.0) (stops (number_of k) p) ≡ cond b (run R m) (stops (number_of k) p)
    go true w more = more w
    go false w more = refl

-- Bytes at the end change no other answer.
pub appended-same_answer : (s t : List ℕ) (nodes entries slots nesting : ℕ) → length (s ++ t) ≤ most_bytes → Uncut (reading s nodes entries slots nesting)
    → reading (s ++ t) nodes entries slots nesting ≡ reading s nodes entries slots nesting
unfolding plain
appended-same_answer s t nodes entries slots nesting h whole =
    let l : length s ≤ most_bytes = omega (arith, length-append s t) in
    let w = within-room s nodes entries slots nesting l in
    within-room (s ++ t) nodes entries slots nesting h
    ∙ run_ext (length (s ++ t) ≡ length s) (On 0) (rooms_of nodes entries slots nesting) (plain s) (plain (s ++ t))
    (value_ext s (s ++ t) (appended s t) (length s) (length (s ++ t)) 0 start (omega arith) (omega arith)) (λ n p e. whole n p (w ∙ e))
    ∙ sym w

-- Nor any number of the stores.
pub appended_same_outcome : (s t : List ℕ) (nodes entries slots nesting : ℕ) → length (s ++ t) ≤ most_bytes → Uncut (reading s nodes entries slots nesting)
    → read_of (s ++ t) nodes entries slots nesting ≡ read_of s nodes entries slots nesting
unfolding read_of
appended_same_outcome s t nodes entries slots nesting h whole = ap (outcome_of nodes entries slots) (appended-same_answer s t nodes entries slots nesting h whole)

ext_same : {A : Type 0} (E : Type 0) (P : A → Type 0) (m m' : Reading A) → E → Ext E P m m' → m' ≡ m
ext_same E P (done x) m' l e = e.1
ext_same E P (refused n p) m' l e = e (even l)
ext_same E P (claim k need p m) m' l e = e.1 ∙ ap (claim k need p) (ext_same E P m e.0 l e.2)

-- From any state, with any two fuels that are as much as the bytes left, the reading is the same.
pub fuel_never-ends_first : (s : List ℕ) (fuel fuel' depth : ℕ) (st : State) → length s ≤ st.at + fuel → length s ≤ st.at + fuel'
    → value fuel' s depth st ≡ value fuel s depth st
fuel_never-ends_first s fuel fuel' depth st h h' =
    ext_same (length s ≡ length s) (On st.at) (value fuel s depth st) (value fuel' s depth st) refl (value_ext s s (itself s) fuel fuel' depth st h h')

pub plain_with_any_fuel : (s : List ℕ) (fuel : ℕ) → length s ≤ fuel → value fuel s 0 start ≡ plain s
unfolding plain
plain_with_any_fuel s fuel h = fuel_never-ends_first s (length s) fuel 0 start (omega arith) (omega arith)
