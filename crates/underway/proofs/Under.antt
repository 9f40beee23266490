-- A writing under way: how it starts, goes on with each put, and ends. Every function that writes is carried by these. Assumes nothing.
use mathlib.Core.Path.{◌≡◌, refl, sym, ap, subst, ◌∙◌}
use Prim.Native.Nat.{ℕ, suc, ◌+◌, ◌-◌, ◌≤◌, ◌<◌}
use mathlib.Core.Bool.{true}
use mathlib.Core.Option.{some}
use native.Mathlib.Omega.{arith}
use mathlib.Core.List.{List, ◌∷◌}
use lib.ListN.{length, take, drop}
use lib.Seq.{drop-drop}
use Rattle.grammar.specs.State.{entry_at}
use Rattle.grammar.specs.Record.{Tables, chain}
use Rattle.writing.specs.Writing.{Writing, ended, refused, then, each, into}
use Rattle.writing.specs.Answer.{most_output}
use Rattle.writing.proofs.Into.{then-ended, into-then, into-stops}
use Rattle.grammar.specs.Numbered.{numbered}
use Rattle.output.specs.Puts.{Wrote, Open, Agrees, Puts}
use Rattle.stores.specs.Written.{EntryIn}
use Rattle.chains.specs.Chained.{is_some}
use Rattle.cellnames.proofs.Groups.{some_of}
use Rattle.chains.proofs.Chains.{onto, headed, entry_in, chain_none}
use Rattle.underway.specs.Onward.{Onward}
use Rattle.underway.specs.Rows.{kids_from}
use Rattle.std.specs.Prelude.{Ok, Err}
use Rattle.refusals.specs.declared.Fault.{Fault}
use Rattle.refusals.specs.Faults.{number_of, fault}
use Rattle.refusals.specs.declared.Refusal.{Refusal}

-- what is untouched from a place on is so from a later one
pub later : (o o₀ : List ℕ) (p a : ℕ) → drop p o ≡ drop p o₀ → p ≤ a → drop a o ≡ drop a o₀
later o o₀ p a e h =
    let n : p + (a - p) ≡ a = omega arith in
    sym (ap (λ m. drop m o) n) ∙ sym (drop-drop (a - p) p o) ∙ ap (drop (a - p)) e ∙ drop-drop (a - p) p o₀ ∙ ap (λ m. drop m o₀) n

pub start : {o : List ℕ} {at : ℕ} {w : Writing} → at ≤ length o → Onward o at w o at w
start h = record { same = refl; ahead = omega arith; inside = h; kept = refl; comes = refl }

module _ {o₀ : List ℕ} {at : ℕ} {w₀ : Writing} {o : List ℕ} {p : ℕ} where
  -- what is left may be said in another way
  pub left_as : {w w' : Writing} → Onward o₀ at w₀ o p w → w ≡ w' → Onward o₀ at w₀ o p w'
  left_as {w} {w'} k e =
      record { same = k.same; ahead = k.ahead; inside = k.inside; kept = k.kept; comes = ap (into (length o₀) (take p o)) (sym e) ∙ k.comes }

  -- the output can be written on
  pub opens : {w : Writing} → Onward o₀ at w₀ o p w → length o₀ ≤ most_output → Open p o
  opens k h = record { inside = omega (arith, k.inside, k.same); counts = omega (arith, k.same) }

  pub done : Onward o₀ at w₀ o p ended → Puts w₀ at o₀ (Ok p) o
  unfolding into
  done k = record { same = k.same; exact = (sym k.comes, k.ahead, k.inside, k.kept) }

  pub stopped : {why : Refusal} {place : ℕ} {stop : Fault} → Onward o₀ at w₀ o p (refused (number_of why) place) → stop ≡ fault why place → Puts w₀ at o₀ (Err stop) o
  unfolding into
  stopped k is = rw is (record { same = k.same; exact = sym k.comes })

  module _ {o' : List ℕ} where
    pub refused_in : {u : Writing} (v : Writing) {r : Wrote} {stop : Fault} → Onward o₀ at w₀ o p (then u v) → Puts u p o r o' → r ≡ Err stop
        → Puts w₀ at o₀ (Err stop) o'
    refused_in {u} v {r} {stop} k put is =
        let e : into (length o) (take p o) u ≡ numbered (Err stop) = rw is at put.exact in
        record {
          same = put.same ∙ k.same;
          exact = sym k.comes ∙ into-stops (length o₀) (take p o) u v (number_of stop.refusal) stop.place (ap (λ n. into n (take p o) u) (sym k.same) ∙ e);
        }

    pub written_in : {u v : Writing} {r : Wrote} {a : ℕ} → Onward o₀ at w₀ o p (then u v) → Puts u p o r o' → r ≡ Ok a → Onward o₀ at w₀ o' a v
    written_in {u} {v} {r} {a} k put is =
        let e : Agrees (Ok a) p o o' (into (length o) (take p o) u) = rw is at put.exact in
        record {
          same = put.same ∙ k.same;
          ahead = omega (arith, k.ahead, e.1);
          inside = omega (arith, k.same, e.2);
          kept = e.3 ∙ later o o₀ p a k.kept e.1;
          comes = sym (into-then (length o₀) (take p o) u v (take a o') (ap (λ n. into n (take p o) u) (sym k.same) ∙ e.0)) ∙ k.comes;
        }

-- a put, by another name of its writing or of its answer
pub puts_equal : {w w' : Writing} {at : ℕ} {o o' : List ℕ} {r : Wrote} → Puts w at o r o' → w' ≡ w → Puts w' at o r o'
puts_equal {w} {w'} {at} {o} {o'} {r} k e = subst (λ x. Puts x at o r o') (sym e) k

pub puts-told : {w : Writing} {at : ℕ} {o o' : List ℕ} {r r' : Wrote} → Puts w at o r o' → r ≡ r' → Puts w at o r' o'
puts-told {w} {at} {o} {o'} k e = subst (λ x. Puts w at o x o') e k

-- behind a put that is done the output can be written on
pub puts_open : {w : Writing} {at a : ℕ} {o o' : List ℕ} {r : Wrote} → Open at o → Puts w at o r o' → r ≡ Ok a → Open a o'
puts_open {w} h put is = opens (written_in (left_as (start h.inside) (sym (then-ended w))) put is) h.counts

-- the last put answers for all
pub last : {o₀ : List ℕ} {at : ℕ} {w₀ : Writing} {o : List ℕ} {p : ℕ} {o' : List ℕ} {u : Writing} {r : Wrote} → Onward o₀ at w₀ o p u → Puts u p o r o' → Puts w₀ at o₀ r o'
last {o₀} {at} {w₀} {o} {p} {o'} {u} {r} k put = go r refl
  where
    go : (r' : Wrote) → r ≡ r' → Puts w₀ at o₀ r o'
    go (Ok a) e = rw e (done (written_in (left_as k (sym (then-ended u))) put e))
    go (Err stop) e = rw e (refused_in ended (left_as k (sym (then-ended u))) put e)

-- A row of children, each written by f: those that are left are still to come.
pub record Rowing (t : Tables) (f : ℕ → Writing) (Fine : List ℕ → Type 0) (count : ℕ) (o₀ : List ℕ) (at : ℕ) (w₀ : Writing) (o : List ℕ) (i e p : ℕ) : Type 0 where
  pub within : i ≤ count
  pub rest : List ℕ
  pub chained : chain t (count - i) e ≡ some rest
  pub fine : Fine rest
  pub way : Onward o₀ at w₀ o p (each f rest)

-- the child that comes next
pub record Turn (t : Tables) (f : ℕ → Writing) (Fine : List ℕ → Type 0) (count : ℕ) (o₀ : List ℕ) (at : ℕ) (w₀ : Writing) (o : List ℕ) (i e p v : ℕ) : Type 0 where
  pub rest : List ℕ
  pub chained : chain t (count - (i + 1)) (onto t.entries e) ≡ some rest
  pub fine : Fine (v ∷ rest)
  pub way : Onward o₀ at w₀ o p (then (f v) (each f rest))

module _ {t : Tables} {f : ℕ → Writing} {Fine : List ℕ → Type 0} {count : ℕ} {o₀ : List ℕ} {at : ℕ} {w₀ : Writing} where
  pub row_start : {first : ℕ} → is_some (chain t count first) ≡ true → Fine (kids_from t count first) → w₀ ≡ each f (kids_from t count first) → at ≤ length o₀
      → Rowing t f Fine count o₀ at w₀ o₀ 0 first at
  row_start {first} h q is l =
      let z : count - 0 ≡ count = omega arith in
      record {
        within = omega arith;
        rest = kids_from t count first;
        chained = ap (λ c. chain t c first) z ∙ some_of (chain t count first) h;
        fine = q;
        way = left_as (start l) is;
      }

  pub row-turn : {o : List ℕ} {i e p v : ℕ} → Rowing t f Fine count o₀ at w₀ o i e p → i < count → v ≡ (entry_at t.entries e).child
      → Turn t f Fine count o₀ at w₀ o i e p v
  unfolding each
  row-turn {o} {i} {e} {p} {v} w l is =
      let n : count - i ≡ suc (count - (i + 1)) = omega arith in
      let d = headed t (count - (i + 1)) e w.rest (sym (ap (λ c. chain t c e) n) ∙ w.chained) in
      let are : w.rest ≡ v ∷ d.rest = d.are ∙ ap (λ x. x ∷ d.rest) (sym is) in
      record { rest = d.rest; chained = d.more; fine = subst Fine are w.fine; way = left_as w.way (ap (each f) are) }

  -- whose entry is in the store
  pub row-entry : {o : List ℕ} {i e p : ℕ} → Rowing t f Fine count o₀ at w₀ o i e p → i < count → EntryIn t.entries e
  row-entry {i = i} {e = e} w l =
      let n : count - i ≡ suc (count - (i + 1)) = omega arith in
      entry_in t (count - (i + 1)) e w.rest (sym (ap (λ c. chain t c e) n) ∙ w.chained)

  pub row_more : {o o' : List ℕ} {i e e' p v a : ℕ} {r : Wrote} → Turn t f Fine count o₀ at w₀ o i e p v → ((vs : List ℕ) → Fine (v ∷ vs) → Fine vs) → i < count
      → e' ≡ (entry_at t.entries e).next → Puts (f v) p o r o' → r ≡ Ok a → Rowing t f Fine count o₀ at w₀ o' (i + 1) e' a
  row_more {i = i} k less l on put is =
      record {
        within = omega arith;
        rest = k.rest;
        chained = ap (chain t (count - (i + 1))) on ∙ k.chained;
        fine = less k.rest k.fine;
        way = written_in k.way put is;
      }

  pub row-refused : {o o' : List ℕ} {i e p v : ℕ} {stop : Fault} {r : Wrote} → Turn t f Fine count o₀ at w₀ o i e p v → Puts (f v) p o r o' → r ≡ Err stop
      → Puts w₀ at o₀ (Err stop) o'
  row-refused k put is = refused_in (each f k.rest) k.way put is

  pub row_end_lem : {o : List ℕ} {i e p : ℕ} → Rowing t f Fine count o₀ at w₀ o i e p → count ≤ i → Puts w₀ at o₀ (Ok p) o
  unfolding each
  row_end_lem {o} {i} {e} {p} w h =
      let z : count - i ≡ 0 = omega arith in
      done (left_as w.way (ap (each f) (chain_none t e w.rest (sym (ap (λ c. chain t c e) z) ∙ w.chained))))
