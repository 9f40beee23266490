-- What holds at each turn of adding to a store, and what the two calls come to. Assumes nothing.
use mathlib.Core.Path.{◌≡◌, refl, sym, ap, ◌∙◌}
use mathlib.Core.Bool.{Bool, true, false, cond, ◌&&◌}
use mathlib.Core.List.{List}
use Prim.Native.Nat.{ℕ, suc, ◌+◌, ◌-◌, ◌^◌, ◌≤◌, ◌<◌}
use native.Mathlib.Omega.{arith}
use native.Mathlib.Numerals.{add-one}
use borrow.Author.Tests.{lt-ltb, le-ltb, ltb-true, ltb-false, eqb-true, eqb-false}
use lib.Dec.{ltb, eqb}
use lib.ListN.{length, get_or, set, length-set, length-replicate}
use lib.Seq.{get_or-set_same, get_or-set_other}
use Rattle.std.specs.Prelude.{Result, Ok, Err}
use Rattle.refusals.specs.Faults.{fault, refused}
use Rattle.refusals.specs.declared.Refusal.TheVariants.{NoRoom, NumberRange}
use Rattle.refusals.specs.declared.Fault.{Fault}
use Rattle.clearing.specs.Refused.{unless_refused}
use Rattle.clearing.specs.Lent.{zeros, padded}
use Rattle.totals.specs.Totals.{counters, Outcome, Totals, held_in, count_of, plus, fit_from, cells, stored, totals_of, added_of}
use Rattle.totals.specs.Steps.{Fresh, Tallied}
use Rattle.totals.proofs.Cells.{zero_held, holds-cells, held_cells, held_beyond, length-stored, stored-alike, stored_fit, stored_unfit, unfit_whole}

-- ---- add_to

-- the counters before i are summed, the others as they were, and what is left decides whether all fit
pub record AddSoFar (a sum₀ sum : List ℕ) (i : ℕ) : Type 0 where
  pub each : (c : ℕ) → get_or sum c 0 ≡ cond (ltb c i) (plus (held_in a) (held_in sum₀) c) (get_or sum₀ c 0)
  pub rest : fit_from (plus (held_in a) (held_in sum₀)) 0 counters ≡ fit_from (plus (held_in a) (held_in sum₀)) i (counters - i)
  pub within : i ≤ counters
  pub wide : counters ≤ length sum
  pub same : length sum ≡ length sum₀

pub add_start : (a sum : List ℕ) → Fresh sum → AddSoFar a sum sum 0
add_start a sum f =
    record { each = λ c. sym (ap (λ (t : Bool). cond t (plus (held_in a) (held_in sum) c) (get_or sum c 0)) (le-ltb c 0 (omega arith))); rest = refl; within = omega arith; wide = f.room; same = refl }

-- one counter of those that are left
fit_step : (t : Totals) (i : ℕ) → i < counters → fit_from t i (counters - i) ≡ (ltb (t i) (2 ^ 64) && fit_from t (i + 1) (counters - (i + 1)))
unfolding fit_from
fit_step t i h =
    let e : counters - i ≡ suc (counters - (i + 1)) = omega arith in
    ap (fit_from t i) e ∙ ap (λ (j : ℕ). ltb (t i) (2 ^ 64) && fit_from t j (counters - (i + 1))) (sym (add-one i))

module _ {a sum₀ sum : List ℕ} {i : ℕ} (k : AddSoFar a sum₀ sum i) where
  -- the counter that is next is as it was
  pub next_held : get_or sum i 0 ≡ get_or sum₀ i 0
  next_held = k.each i ∙ ap (λ (t : Bool). cond t (plus (held_in a) (held_in sum₀) i) (get_or sum₀ i 0)) (le-ltb i i (omega arith))

  pub add-place : i < counters → i < length sum
  add-place h = omega (arith, k.wide)

  -- a sum that passes 64 bits
  pub add-stop : {more : ℕ} {why : Fault} → more ≡ get_or a i 0 → i < counters → 0xFFFF_FFFF_FFFF_FFFF - more < get_or sum i 0 → more < 2 ^ 64
      → why ≡ fault NumberRange 0 → (Err why, zeros (length sum)) ≡ stored (length sum₀) (plus (held_in a) (held_in sum₀))
  add-stop {more} m h b f w =
      let high : 2 ^ 64 ≤ get_or a i 0 + get_or sum₀ i 0 = omega (arith, m, next_held) in
      let un = k.rest ∙ fit_step (plus (held_in a) (held_in sum₀)) i h ∙ ap (λ (t : Bool). t && fit_from (plus (held_in a) (held_in sum₀)) (i + 1) (counters - (i + 1))) (le-ltb (plus (held_in a) (held_in sum₀) i) (2 ^ 64) high) in
      rw (w, k.same) (sym (stored_unfit (length sum₀) (plus (held_in a) (held_in sum₀)) un))

  pub add_turn : {more : ℕ} → more ≡ get_or a i 0 → i < counters → get_or sum i 0 ≤ 0xFFFF_FFFF_FFFF_FFFF - more → more < 2 ^ 64
      → AddSoFar a sum₀ (set sum i (get_or sum i 0 + more)) (i + 1)
  add_turn {more} m h b f =
      let low : get_or a i 0 + get_or sum₀ i 0 < 2 ^ 64 = omega (arith, m, next_held) in
      record {
        each = λ c. go c (eqb c i) refl;
        rest = k.rest ∙ fit_step (plus (held_in a) (held_in sum₀)) i h ∙ ap (λ (t : Bool). t && fit_from (plus (held_in a) (held_in sum₀)) (i + 1) (counters - (i + 1))) (lt-ltb (plus (held_in a) (held_in sum₀) i) (2 ^ 64) low);
        within = omega arith;
        wide = simp length-set k.wide;
        same = simp length-set k.same;
      }
    where
      value : get_or sum i 0 + more ≡ get_or a i 0 + get_or sum₀ i 0
      value = omega (arith, m, next_held)

      other : (c : ℕ) → (c ≡ i → ⊥) → (t : Bool) → ltb c i ≡ t → ltb c (i + 1) ≡ t
      other c n true e = lt-ltb c (i + 1) (omega (arith, ltb-true c i e))
      other c n false e = le-ltb c (i + 1) (apart c n (ltb-false c i e))
        where
          apart : (c : ℕ) → (c ≡ i → ⊥) → i ≤ c → i + 1 ≤ c
          apart c n l = go (ltb i c) refl
            where
              go : (t : Bool) → ltb i c ≡ t → i + 1 ≤ c
              go true e = omega (arith, ltb-true i c e)
              go false e = absurd (n (omega (arith, ltb-false i c e)))

      go : (c : ℕ) (t : Bool) → eqb c i ≡ t
          → get_or (set sum i (get_or sum i 0 + more)) c 0 ≡ cond (ltb c (i + 1)) (plus (held_in a) (held_in sum₀) c) (get_or sum₀ c 0)
      go c true e =
          let s = eqb-true c i e in
          rw (s, lt-ltb i (i + 1) (omega arith)) (get_or-set_same sum i (get_or sum i 0 + more) 0 (add-place h) ∙ value)
      go c false e =
          let n = eqb-false c i e in
          get_or-set_other sum i c (get_or sum i 0 + more) 0 n ∙ k.each c
          ∙ ap (λ (t : Bool). cond t (plus (held_in a) (held_in sum₀) c) (get_or sum₀ c 0)) (sym (other c n (ltb c i) refl))

  -- every counter is summed
  pub add_end : Fresh sum₀ → counters ≤ i → (Ok tt, sum) ≡ stored (length sum₀) (plus (held_in a) (held_in sum₀))
  unfolding fit_from
  add_end f h =
      let all : i ≡ counters = omega (arith, k.within) in
      let fit = k.rest ∙ ap (λ (j : ℕ). fit_from (plus (held_in a) (held_in sum₀)) j (counters - j)) all in
      let own = holds-cells (plus (held_in a) (held_in sum₀)) sum k.wide (λ c l. k.each c ∙ ap (λ (t : Bool). cond t (plus (held_in a) (held_in sum₀) c) (get_or sum₀ c 0)) (lt-ltb c i (omega arith)))
      (λ c l. k.each c ∙ ap (λ (t : Bool). cond t (plus (held_in a) (held_in sum₀) c) (get_or sum₀ c 0)) (le-ltb c i (omega arith)) ∙ f.beyond c l) in
      ap (λ (l : List ℕ). (Ok tt, l)) (own ∙ ap (λ (n : ℕ). padded n (cells (plus (held_in a) (held_in sum₀)))) k.same)
      ∙ sym (stored_fit (length sum₀) (plus (held_in a) (held_in sum₀)) fit)

-- ---- the calls

pub fresh-zeros : (xs : List ℕ) (n : ℕ) → xs ≡ zeros n → counters ≤ length xs → Fresh xs
fresh-zeros xs n e h = record { room = h; beyond = λ c l. ap (λ (ys : List ℕ). get_or ys c 0) e ∙ zero_held n c }

pub fresh_cells : (t : Totals) (xs : List ℕ) → xs ≡ padded (length xs) (cells t) → counters ≤ length xs → Fresh xs
fresh_cells t xs e h = record { room = h; beyond = λ c l. ap (λ (ys : List ℕ). get_or ys c 0) e ∙ held_beyond t (length xs) c l }

-- a store that is too short
pub totals-short : (before answers : List ℕ) (room : ℕ) (left : List ℕ) {answer : Result (Unit {0}) Fault} {why : Fault} → length left ≡ room
    → answer ≡ Err why → (room < counters) × (why ≡ fault NoRoom room) → (answer, unless_refused answer left) ≡ totals_of before answers room
unfolding totals_of
totals-short before answers room left l a h = rw (a, l, lt-ltb room counters h.0, h.1)

pub added-short : (a b : List ℕ) (room : ℕ) (left : List ℕ) {answer : Result (Unit {0}) Fault} {why : Fault} → length left ≡ room
    → answer ≡ Err why → (room < counters) × (why ≡ fault NoRoom room) → (answer, unless_refused answer left) ≡ added_of a b room
unfolding added_of
added-short a b room left l f h = rw (f, l, lt-ltb room counters h.0, h.1)

-- an answer that is no refusal's number
pub totals_unknown : (before answers : List ℕ) (room : ℕ) {left : List ℕ} {answer : Result (Unit {0}) Fault} {why : Fault} → counters ≤ room
    → length left ≡ room → Tallied answers false left → answer ≡ Err why → why ≡ fault NumberRange 0
    → (answer, unless_refused answer left) ≡ totals_of before answers room
unfolding totals_of
totals_unknown before answers room h l t a w = rw (a, l, le-ltb room counters h, sym t.told, w)

-- all counted, then added to what was before
pub totals_summed : (before answers : List ℕ) (room : ℕ) {all : Bool} {left : List ℕ} → counters ≤ room → length left ≡ room → Tallied answers all left → all ≡ true
    → stored (length left) (plus (held_in before) (held_in left)) ≡ totals_of before answers room
unfolding totals_of
totals_summed before answers room {all} {left} h l t e =
    let yes = sym t.told ∙ e in
    let same =
    stored-alike (length left) (plus (held_in before) (held_in left)) (plus (held_in before) (λ counter. count_of counter answers))
    (λ c f. ap (λ (n : ℕ). held_in before c + n) (ap (λ (ys : List ℕ). held_in ys c) (t.holds yes) ∙ held_cells (λ counter. count_of counter answers) (length left) c f)) in
    rw (le-ltb room counters h, yes) (same ∙ ap (λ (n : ℕ). stored n (plus (held_in before) (λ counter. count_of counter answers))) l)

pub fresh_tallied : {answers : List ℕ} {all : Bool} {left : List ℕ} → counters ≤ length left → Tallied answers all left → all ≡ true → Fresh left
fresh_tallied {answers} {all} {left} h t e = fresh_cells (λ counter. count_of counter answers) left (t.holds (sym t.told ∙ e)) h

-- an answer tells whether the totals fit
abbrev done_or : Result (Unit {0}) Fault → ℕ
done_or (Ok done) = 1
done_or (Err why) = 0

fit_by_answer : (room : ℕ) (t : Totals) {r : Result (Unit {0}) Fault} {s : List ℕ} → (r, s) ≡ stored room t → fit_from t 0 counters ≡ ltb 0 (done_or r)
unfolding stored
fit_by_answer room t {r} {s} e = go (fit_from t 0 counters) (ap (λ (p : Outcome). done_or p.0) e)
  where
    go : (b : Bool) → done_or r ≡ done_or (cond {A = Outcome} b (Ok tt, padded room (cells t)) (refused NumberRange 0, zeros room)).0 → b ≡ ltb 0 (done_or r)
    go true d = sym (lt-ltb 0 (done_or r) (omega (arith, d)))
    go false d = sym (le-ltb 0 (done_or r) (omega (arith, d)))

module _ (a b : List ℕ) (n : ℕ) {first one : List ℕ} {r : Result (Unit {0}) Fault} (clear : first ≡ zeros n) (room : counters ≤ length first)
    (e : (r, one) ≡ stored (length first) (plus (held_in b) (held_in first))) where
  size : length first ≡ n
  size = ap length clear ∙ length-replicate n 0

  -- over zeros the second totals stand alone
  alone : (r, one) ≡ stored n (held_in b)
  alone =
      e ∙ ap (λ (m : ℕ). stored m (plus (held_in b) (held_in first))) size
      ∙ stored-alike n (plus (held_in b) (held_in first)) (held_in b) (λ c f. same c)
    where
      same : (c : ℕ) → get_or b c 0 + get_or first c 0 ≡ get_or b c 0
      same c = omega (arith, ap (λ (ys : List ℕ). get_or ys c 0) clear ∙ zero_held n c)

  held_alone : r ≡ Ok tt → one ≡ padded n (cells (held_in b))
  held_alone d =
      let fit = fit_by_answer n (held_in b) alone ∙ ap (λ (x : Result (Unit {0}) Fault). ltb 0 (done_or x)) d in
      ap (λ (p : Outcome). p.1) (alone ∙ stored_fit n (held_in b) fit)

  pub fresh-alone : r ≡ Ok tt → Fresh one
  fresh-alone d =
      let l = ap length (held_alone d) ∙ length-stored (held_in b) n (omega (arith, size)) in
      fresh_cells (held_in b) one (held_alone d ∙ ap (λ (m : ℕ). padded m (cells (held_in b))) (sym l)) (omega (arith, size, l))

  -- then the first are added to them
  pub added-both : r ≡ Ok tt → stored (length one) (plus (held_in a) (held_in one)) ≡ added_of a b n
  unfolding added_of
  added-both d =
      let l = ap length (held_alone d) ∙ length-stored (held_in b) n (omega (arith, size)) in
      rw (le-ltb n counters (omega (arith, size)))
      (ap (λ (m : ℕ). stored m (plus (held_in a) (held_in one))) l
      ∙ stored-alike n (plus (held_in a) (held_in one)) (plus (held_in a) (held_in b)) (λ c f. ap (λ (x : ℕ). held_in a c + x) (ap (λ (ys : List ℕ). held_in ys c) (held_alone d) ∙ held_cells (held_in b) n c f)))

  -- what one of them passes, both do
  pub added-refused : {why : Fault} → r ≡ Err why → (Err why, one) ≡ added_of a b n
  unfolding added_of
  added-refused {why} d =
      let un = fit_by_answer n (held_in b) alone ∙ ap (λ (x : Result (Unit {0}) Fault). ltb 0 (done_or x)) d in
      let all = unfit_whole (plus (held_in a) (held_in b)) (held_in b) (λ c. omega arith) un in
      rw (le-ltb n counters (omega (arith, size)))
      (ap (λ (x : Result (Unit {0}) Fault). (x, one)) (sym d) ∙ alone ∙ stored_unfit n (held_in b) un ∙ sym (stored_unfit n (plus (held_in a) (held_in b)) all))
