-- A row of children of which the leaves are written first: what is left of it is still to come. Assumes nothing.
use mathlib.Core.Path.{◌≡◌, refl, sym, ap, subst, ◌∙◌}
use Prim.Native.Nat.{ℕ, ◌-◌, ◌≤◌}
use native.Mathlib.Omega.{arith}
use mathlib.Core.Bool.{true}
use mathlib.Core.List.{List}
use lib.ListN.{length, take}
use Rattle.grammar.specs.Record.{Tables, chain}
use Rattle.writing.specs.Writing.{Writing, each, into}
use Rattle.writing.specs.Steps.{writing}
use Rattle.output.specs.Puts.{Puts}
use Rattle.writecheck.specs.declared.Used.{Used}
use Rattle.chains.specs.Chained.{is_some}
use Rattle.writecheck.specs.Looking.{lent}
use Rattle.cellnames.specs.Groups.{or_none}
use Rattle.cellnames.proofs.Groups.{some_of}
use Rattle.writeleaves.specs.declared.Rowed.{Rowed}
use Rattle.underway.specs.Onward.{Onward}
use Rattle.underway.specs.Rows.{kids_from}
use Rattle.writeleaves.specs.Leaves.{Led, LeadAs, Leads, row_from, RowAs, Rows}
use Rattle.underway.proofs.Under.{start, left_as, later, last, Rowing}
use Rattle.std.specs.Prelude.{None, Some, Result, Ok, Err}
use Rattle.refusals.specs.declared.Fault.{Fault}

-- a writing that goes on from where another stands
pub onward_on : {o₀ o o' : List ℕ} {at p p' : ℕ} {w₀ w w' : Writing} → Onward o₀ at w₀ o p w → Onward o p w o' p' w' → Onward o₀ at w₀ o' p' w'
onward_on {o₀} {o} {o'} {at} {p} {p'} {w₀} {w} {w'} k j =
    record {
      same = j.same ∙ k.same;
      ahead = omega (arith, k.ahead, j.ahead);
      inside = omega (arith, j.inside, k.same);
      kept = j.kept ∙ later o o₀ p p' k.kept j.ahead;
      comes = subst (λ n. into n (take p' o') w' ≡ into n (take p o) w) k.same j.comes ∙ k.comes;
    }

module _ (t : Tables) (a count : ℕ) where
  -- a row of which some are done
  pub row_starts : {first done at : ℕ} {o₀ : List ℕ} → done ≤ count → is_some (chain t (count - done) first) ≡ true → at ≤ length o₀
      → Rowing t (writing a t) (λ vs. Unit) count o₀ at (row_from t a count first done) o₀ done first at
  row_starts {first} {done} w h l =
      record { within = w; rest = kids_from t (count - done) first; chained = some_of (chain t (count - done) first) h; fine = tt; way = start l }

  -- what is left of it
  pub row_left : {o₀ o : List ℕ} {at : ℕ} {w₀ : Writing} {i e p : ℕ} → Rowing t (writing a t) (λ vs. Unit) count o₀ at w₀ o i e p
      → Onward o₀ at w₀ o p (row_from t a count e i) × (is_some (chain t (count - i) e) ≡ true)
  row_left k =
      (left_as k.way (ap (each (writing a t)) (sym (ap or_none k.chained))), ap is_some k.chained)

  -- the leaves of what is left, written
  pub row_led : {o₀ o o' : List ℕ} {at : ℕ} {w₀ : Writing} {i e p : ℕ} {r : Result Rowed Fault} {row : Rowed} → Rowing t (writing a t) (λ vs. Unit) count o₀ at w₀ o i e p
      → Rows t a count e i p o r o' → r ≡ Ok row
      → Rowing t (writing a t) (λ vs. Unit) count o₀ at w₀ o' row.done row.entry row.at
  row_led {o = o} {o' = o'} {i = i} {e = e} {p = p} {row = row} k rows is =
      let told = subst (λ x. RowAs t a count e i p o x o') is rows.stands in
      record {
        within = told.3;
        rest = kids_from t (count - row.done) row.entry;
        chained = some_of (chain t (count - row.done) row.entry) told.1;
        fine = tt;
        way = onward_on (row_left k).0 told.0;
      }

  pub row-ahead : {o o' : List ℕ} {i e p : ℕ} {r : Result Rowed Fault} {row : Rowed} → Rows t a count e i p o r o' → r ≡ Ok row → i ≤ row.done
  row-ahead {o = o} {o' = o'} {i = i} {e = e} {p = p} rows is = (subst (λ x. RowAs t a count e i p o x o') is rows.stands).2

  pub row_led_refused : {o₀ o o' : List ℕ} {at : ℕ} {w₀ : Writing} {i e p : ℕ} {r : Result Rowed Fault} {stop : Fault} → Rowing t (writing a t) (λ vs. Unit) count o₀ at w₀ o i e p
      → Rows t a count e i p o r o' → r ≡ Err stop → Puts w₀ at o₀ (Err stop) o'
  row_led_refused {o = o} {o' = o'} {i = i} {e = e} {p = p} k rows is = last (row_left k).0 (subst (λ x. RowAs t a count e i p o x o') is rows.stands)

  -- what is done of a row, told as its answer
  pub rows_on : {o₀ o o' : List ℕ} {at first done i e p : ℕ} → Rowing t (writing a t) (λ vs. Unit) count o₀ at (row_from t a count first done) o i e p → done ≤ i
      → o' ≡ o → Rows t a count first done at o₀ (Ok (record { entry = e; done = i; at = p })) o'
  rows_on {o₀} {at = at} {first = first} {done = done} {i = i} {e = e} {p = p} k h is =
      let left = row_left (subst (λ x. Rowing t (writing a t) (λ vs. Unit) count o₀ at (row_from t a count first done) x i e p) (sym is) k) in
      record { same = left.0.same; stands = (left.0, left.1, h, k.within) }

  -- the same at its end
  pub rows_all : {o₀ o : List ℕ} {at first done i e p : ℕ} → Rowing t (writing a t) (λ vs. Unit) count o₀ at (row_from t a count first done) o i e p → count ≤ i → done ≤ count
      → Rows t a count first done at o₀ (Ok (record { entry = e; done = count; at = p })) o
  rows_all {o₀} {o} {at} {first} {done} {i} {e} {p} k h l =
      let is : i ≡ count = omega (arith, k.within) in
      rows_on (subst (λ n. Rowing t (writing a t) (λ vs. Unit) count o₀ at (row_from t a count first done) o n e p) is k) l refl

  pub rows-refused : {o₀ o' : List ℕ} {at first done : ℕ} {stop : Fault} → Puts (row_from t a count first done) at o₀ (Err stop) o'
      → Rows t a count first done at o₀ (Err stop) o'
  rows-refused put = record { same = put.same; stands = put }

-- a leaf's answer, case by case
module _ {s nodes : List ℕ} (entries : List ℕ) {used : Used} {a n at : ℕ} {o o' : List ℕ} {r : Led} (k : Leads s nodes used a n at o r o') where
  told : {r' : Led} → r ≡ r' → LeadAs (lent s nodes entries used) a n at o r' o'
  told e = subst (λ x. LeadAs (lent s nodes entries used) a n at o x o') e (k.tells entries)

  pub led_on : {p : ℕ} → r ≡ Ok (Some p) → Puts (writing a (lent s nodes entries used) n) at o (Ok p) o'
  led_on e = told e

  pub led_refused : {stop : Fault} → r ≡ Err stop → Puts (writing a (lent s nodes entries used) n) at o (Err stop) o'
  led_refused e = told e

  pub led_left : r ≡ Ok None → o' ≡ o
  led_left e = told e
