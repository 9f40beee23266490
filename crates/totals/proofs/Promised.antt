-- What K14 promises of totals: counts of two parts add up, and what the whole fits each part does. Assumes nothing.
use mathlib.Core.Path.{◌≡◌, refl, sym, ap, ◌∙◌}
use mathlib.Core.Bool.{Bool, true, false, cond, ◌&&◌}
use mathlib.Core.List.{List, [], ◌++◌}
use Prim.Native.Nat.{ℕ, ◌+◌, ◌≤◌, ◌<◌}
use native.Mathlib.Omega.{arith}
use borrow.Author.Tests.{lt-ltb, le-ltb, ltb-true, ltb-false}
use lib.Dec.{ltb}
use Rattle.std.specs.Prelude.{Ok, Err}
use Rattle.refusals.specs.declared.Refusal.TheVariants.{NoRoom, NumberRange}
use Rattle.clearing.specs.Lent.{padded}
use Rattle.totals.specs.Totals.{counters, Outcome, Totals, held_in, count_of, known, plus, fit_from, cells, refused_at, stored, totals_of, added_of}
use Rattle.totals.specs.Promised.{Grouping, part, both, answers_of, both_added, totals_of_parts, Promised}
use Rattle.totals.proofs.Cells.{held_cells, stored-alike, fit_part}
use Rattle.totals.proofs.Counting.{count-append, known-append, count-both, both_true}

no_path : false ≡ true → ⊥
no_path e =
    let z : ◌≡◌ {A = ℕ} 0 1 = ap (λ (b : Bool). cond b 1 0) e in
    omega arith

-- ---- an accepted count

-- `before` and the answers, counter by counter
total : List ℕ → List ℕ → Totals
total before answers = plus (held_in before) (λ counter. count_of counter answers)

ok : List ℕ → List ℕ → Bool
ok before answers = known answers && fit_from (total before answers) 0 counters

abbrev outcome : ℕ → List ℕ → List ℕ → Bool → Outcome
outcome room before answers all = cond all (Ok tt, padded room (cells (total before answers))) (refused_at room NumberRange 0)

outcome_of_lem : (before answers : List ℕ) (room : ℕ) → counters ≤ room → totals_of before answers room ≡ outcome room before answers (ok before answers)
unfolding totals_of stored total ok
outcome_of_lem before answers room h = rw (le-ltb room counters h) (go (known answers))
  where
    go : (k : Bool)
        → cond k (cond (fit_from (total before answers) 0 counters) (Ok tt, padded room (cells (total before answers))) (refused_at room NumberRange 0)) (refused_at room NumberRange 0)
        ≡ cond (k && fit_from (total before answers) 0 counters) (Ok tt, padded room (cells (total before answers))) (refused_at room NumberRange 0)
    go true = refl
    go false = refl

short_of_lem : (before answers : List ℕ) (room : ℕ) → room < counters → totals_of before answers room ≡ refused_at room NoRoom room
unfolding totals_of
short_of_lem before answers room h = rw (lt-ltb room counters h)

abbrev done_or : Outcome → ℕ
done_or (Ok done, xs) = 1
done_or (Err why, xs) = 0

grown_by : (before answers : List ℕ) (room : ℕ) (left : List ℕ) → totals_of before answers room ≡ (Ok tt, left)
    → (counter : ℕ) → counter < counters → held_in left counter ≡ held_in before counter + count_of counter answers
unfolding total
grown_by before answers room left e c f = go (ltb room counters) refl
  where
    fits : (all : Bool) → outcome room before answers all ≡ (Ok tt, left) → held_in left c ≡ held_in before c + count_of c answers
    fits true s = ap (λ (p : Outcome). held_in p.1 c) (sym s) ∙ held_cells (total before answers) room c f
    fits false s = absurd (omega (arith, ap done_or s))

    go : (short : Bool) → ltb room counters ≡ short → held_in left c ≡ held_in before c + count_of c answers
    go true s = absurd (omega (arith, ap done_or (sym (short_of_lem before answers room (ltb-true room counters s)) ∙ e)))
    go false s = fits (ok before answers) (sym (outcome_of_lem before answers room (ltb-false room counters s)) ∙ e)

-- ---- parts

-- what the whole is accepted for, each part is
whole_part : (xs ys : List ℕ) → ok [] (xs ++ ys) ≡ true → (ok [] xs ≡ true) × (ok [] ys ≡ true)
unfolding ok total
whole_part xs ys e =
    let all = both_true (known (xs ++ ys)) (fit_from (total [] (xs ++ ys)) 0 counters) e in
    let k = both_true (known xs) (known ys) (sym (known-append xs ys) ∙ all.0) in
    let f = fit_part (total [] (xs ++ ys)) (total [] xs) 0 counters (λ c. omega (arith, count-append c xs ys)) all.1 in
    let g = fit_part (total [] (xs ++ ys)) (total [] ys) 0 counters (λ c. omega (arith, count-append c xs ys)) all.1 in
    (λ i. k.0 i && f i, λ i. k.1 i && g i)

refused-whole : (xs ys : List ℕ) → (ok [] (xs ++ ys) ≡ true → ⊥) → ok [] (xs ++ ys) ≡ false
refused-whole xs ys h = go (ok [] (xs ++ ys)) refl
  where
    go : (b : Bool) → ok [] (xs ++ ys) ≡ b → b ≡ false
    go true e = absurd (h e)
    go false e = refl

-- both parts accepted: the sums of their counts are the whole's
sum_alike : (room : ℕ) (xs ys : List ℕ) → stored room (plus (held_in (padded room (cells (total [] xs)))) (held_in (padded room (cells (total [] ys))))) ≡ stored room (total [] (xs ++ ys))
unfolding total
sum_alike room xs ys = stored-alike room _ _ (λ c f. same c (held_cells (total [] xs) room c f) (held_cells (total [] ys) room c f))
  where
    same : (c : ℕ) → held_in (padded room (cells (total [] xs))) c ≡ 0 + count_of c xs → held_in (padded room (cells (total [] ys))) c ≡ 0 + count_of c ys
        → held_in (padded room (cells (total [] xs))) c + held_in (padded room (cells (total [] ys))) c ≡ 0 + count_of c (xs ++ ys)
    same c e f = omega (arith, e, f, count-append c xs ys)

both-known : (xs ys : List ℕ) → ok [] xs ≡ true → ok [] ys ≡ true → known (xs ++ ys) ≡ true
unfolding ok
both-known xs ys e f =
    let a = (both_true (known xs) (fit_from (total [] xs) 0 counters) e).0 in
    let b = (both_true (known ys) (fit_from (total [] ys) 0 counters) f).0 in
    known-append xs ys ∙ (λ i. a i && b i)

added_sums : (room : ℕ) (xs ys : List ℕ) → counters ≤ room → known (xs ++ ys) ≡ true
    → added_of (padded room (cells (total [] xs))) (padded room (cells (total [] ys))) room ≡ totals_of [] (xs ++ ys) room
unfolding added_of totals_of total
added_sums room xs ys h k = rw (le-ltb room counters h, k) (sum_alike room xs ys)

added_up : (room : ℕ) (xs ys : List ℕ) → both_added room (totals_of [] xs room) (totals_of [] ys room) ≡ totals_of [] (xs ++ ys) room
added_up room xs ys = go (ltb room counters) refl
  where
    parts : counters ≤ room → (a b : Bool) → ok [] xs ≡ a → ok [] ys ≡ b
        → both_added room (outcome room [] xs a) (outcome room [] ys b) ≡ totals_of [] (xs ++ ys) room
    parts h true true e f = added_sums room xs ys h (both-known xs ys e f)
    parts h true false e f =
        sym (outcome_of_lem [] (xs ++ ys) room h ∙ ap (outcome room [] (xs ++ ys)) (refused-whole xs ys (λ w. no_path (sym f ∙ (whole_part xs ys w).1))))
    parts h false b e f =
        sym (outcome_of_lem [] (xs ++ ys) room h ∙ ap (outcome room [] (xs ++ ys)) (refused-whole xs ys (λ w. no_path (sym e ∙ (whole_part xs ys w).0))))

    go : (short : Bool) → ltb room counters ≡ short → both_added room (totals_of [] xs room) (totals_of [] ys room) ≡ totals_of [] (xs ++ ys) room
    go true s =
        let h = ltb-true room counters s in
        ap (λ (o : Outcome). both_added room o (totals_of [] ys room)) (short_of_lem [] xs room h) ∙ sym (short_of_lem [] (xs ++ ys) room h)
    go false s =
        let h = ltb-false room counters s in
        (λ i. both_added room (outcome_of_lem [] xs room h i) (outcome_of_lem [] ys room h i)) ∙ parts h (ok [] xs) (ok [] ys) refl refl

grouped-alike : (room : ℕ) (parts : Grouping) → totals_of_parts room parts ≡ totals_of [] (answers_of parts) room
unfolding totals_of_parts answers_of
grouped-alike room (part answers) = refl
grouped-alike room (both g h) = (λ i. both_added room (grouped-alike room g i) (grouped-alike room h i)) ∙ added_up room (answers_of g) (answers_of h)

pub totals_keep_their_promises : Promised
totals_keep_their_promises =
    record {
      balanced =
          λ before answers room left e b.
          let g = grown_by before answers room left e in
          omega (arith, g 0 (omega arith), g 1 (omega arith), g 2 (omega arith), b, count-both answers);
      grown = grown_by;
      grouped = grouped-alike;
    }
