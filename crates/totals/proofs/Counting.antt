-- Counts of answers: those of two parts add up, accepted and refused together are the inputs, and each answer is one more in the cell
-- of its own number, from which the first three counters follow. Assumes nothing.
use mathlib.Core.Path.{◌≡◌, refl, sym, ap, ◌∙◌}
use mathlib.Core.Bool.{Bool, true, false, cond, ◌&&◌, not}
use mathlib.Core.List.{List, [], ◌∷◌, ◌++◌}
use Prim.Native.Nat.{ℕ, zero, suc, ◌+◌, ◌-◌, ◌^◌, ◌≤◌, ◌<◌}
use native.Mathlib.Omega.{arith}
use native.Mathlib.Nat.{add-zero}
use native.Mathlib.Numerals.{add-one}
use borrow.Author.Tests.{eqb-true, eqb-false, eq-eqb, ne_eqb, le-leb, lt-leb, leb-true}
use lib.Dec.{leb, eqb}
use lib.ListN.{length, get_or, set, take, drop, length-set}
use lib.Seq.{take-suc, drop-cons, take_all, drop-length, get_or-set_same, get_or-set_other}
use Rattle.refusals.specs.Numbers.{last_number}
use Rattle.clearing.specs.Lent.{zeros}
use Rattle.totals.specs.Totals.{counters, counts, count_of, known}
use Rattle.totals.specs.Steps.{Tallied}
use Rattle.totals.proofs.Cells.{zero_held, holds-cells}

-- ---- two parts

pub count-append : (c : ℕ) (xs ys : List ℕ) → count_of c (xs ++ ys) ≡ count_of c xs + count_of c ys
unfolding count_of
count-append c [] ys = omega arith
count-append c (x ∷ xs) ys = omega (arith, count-append c xs ys)

pub known-append : (xs ys : List ℕ) → known (xs ++ ys) ≡ (known xs && known ys)
unfolding known
known-append [] ys = refl
known-append (x ∷ xs) ys = go (leb x last_number) (known-append xs ys)
  where
    go : (b : Bool) → known (xs ++ ys) ≡ (known xs && known ys) → (b && known (xs ++ ys)) ≡ (b && known xs && known ys)
    go true e = e
    go false e = refl

-- ---- the first three counters

pub count-inputs : (xs : List ℕ) → count_of 0 xs ≡ length xs
unfolding count_of counts
count-inputs [] = refl
count-inputs (x ∷ xs) = omega (arith, count-inputs xs)

pub count-both : (xs : List ℕ) → count_of 1 xs + count_of 2 xs ≡ count_of 0 xs
unfolding count_of counts
count-both [] = refl
count-both (x ∷ xs) = go (eqb x 0) (count-both xs)
  where
    go : (b : Bool) → count_of 1 xs + count_of 2 xs ≡ count_of 0 xs → cond b 1 0 + count_of 1 xs + (cond (not b) 1 0 + count_of 2 xs) ≡ 1 + count_of 0 xs
    go true e = omega (arith, e)
    go false e = omega (arith, e)

-- ---- each answer in the cell of its own number

-- how many answers have their own number's cell here
unfoldable pub own : ℕ → List ℕ → ℕ
own c [] = 0
own c (x ∷ xs) = cond (eqb c (2 + x)) 1 0 + own c xs

own_last : (c : ℕ) (xs : List ℕ) (x : ℕ) → own c (xs ++ x ∷ []) ≡ own c xs + cond (eqb c (2 + x)) 1 0
unfolding own
own_last c [] x = omega arith
own_last c (y ∷ xs) x = omega (arith, own_last c xs x)

own_most : (c : ℕ) (xs : List ℕ) → own c xs ≤ length xs
unfolding own
own_most c [] = omega arith
own_most c (x ∷ xs) = go (eqb c (2 + x)) (own_most c xs)
  where
    go : (b : Bool) → own c xs ≤ length xs → cond b 1 0 + own c xs ≤ suc (length xs)
    go true e = omega arith
    go false e = omega arith

-- one test for another
same_test : (x y u v : ℕ) → (x ≡ y → u ≡ v) → (u ≡ v → x ≡ y) → eqb x y ≡ eqb u v
same_test x y u v f g = go (eqb x y) refl
  where
    go : (b : Bool) → eqb x y ≡ b → b ≡ eqb u v
    go true e = sym (eq-eqb u v (f (eqb-true x y e)))
    go false e = sym (ne_eqb u v (λ s. eqb-false x y e (g s)))

own_accepted : (xs : List ℕ) → own 2 xs ≡ count_of 1 xs
unfolding own count_of counts
own_accepted [] = refl
own_accepted (x ∷ xs) =
    ap (λ (b : Bool). cond b 1 0 + own 2 xs) (same_test 2 (2 + x) x 0 (λ e. omega arith) (λ e. omega arith))
    ∙ ap (λ (n : ℕ). cond (eqb x 0) 1 0 + n) (own_accepted xs)

own_refusal : (n : ℕ) (xs : List ℕ) → own (suc (suc (suc n))) xs ≡ count_of (suc (suc (suc n))) xs
unfolding own count_of counts
own_refusal n [] = refl
own_refusal n (x ∷ xs) =
    ap (λ (b : Bool). cond b 1 0 + own (suc (suc (suc n))) xs)
    (same_test (suc (suc (suc n))) (2 + x) x (suc n) (λ e. omega arith) (λ e. omega arith))
    ∙ ap (λ (m : ℕ). cond (eqb x (suc n)) 1 0 + m) (own_refusal n xs)

-- the rest of a conjunction that holds
pub both_true : (a b : Bool) → (a && b) ≡ true → (a ≡ true) × (b ≡ true)
both_true true b e = (refl, e)
both_true false b e =
    let z : ◌≡◌ {A = ℕ} 0 1 = ap (λ (t : Bool). cond t 1 0) e in
    absurd (omega arith)

own_none : (c : ℕ) (xs : List ℕ) → counters ≤ c → known xs ≡ true → own c xs ≡ 0
unfolding own known
own_none c [] h e = refl
own_none c (x ∷ xs) h e =
    let both = both_true (leb x last_number) (known xs) e in
    let low = leb-true x last_number both.0 in
    ap (λ (b : Bool). cond b 1 0 + own c xs) (ne_eqb c (2 + x) (λ s. omega arith)) ∙ omega (arith, own_none c xs h both.1)

-- ---- tally

-- the answers before i are counted, each in its own number's cell, and known
pub record TallySoFar (answers : List ℕ) (room : ℕ) (after : List ℕ) (i : ℕ) : Type 0 where
  pub each : (c : ℕ) → get_or after c 0 ≡ own c (take i answers)
  pub rest : known answers ≡ known (drop i answers)
  pub within : i ≤ length answers
  pub wide : counters ≤ length after
  pub same : length after ≡ room

pub tally_start : (answers after : List ℕ) → counters ≤ length after → after ≡ zeros (length after) → TallySoFar answers (length after) after 0
unfolding own
tally_start answers after h e =
    record { each = λ c. ap (λ (l : List ℕ). get_or l c 0) e ∙ zero_held (length after) c; rest = refl; within = omega arith; wide = h; same = refl }

module _ {answers after : List ℕ} {room i : ℕ} (k : TallySoFar answers room after i) where
  -- an answer that is no refusal's number
  pub tally_stop : i < length answers → last_number < get_or answers i 0 → false ≡ known answers
  unfolding known
  tally_stop h b =
      sym (k.rest ∙ ap known (drop-cons answers i 0 h) ∙ ap (λ (t : Bool). t && known (drop (suc i) answers)) (lt-leb (get_or answers i 0) last_number b))

  pub tally_unknown : {left : List ℕ} → i < length answers → last_number < get_or answers i 0 → Tallied answers false left
  tally_unknown {left} h b =
      let e = tally_stop h b in
      record {
        told = e;
        holds =
            λ s.
            let z : ◌≡◌ {A = ℕ} 0 1 = ap (λ (t : Bool). cond t 1 0) (e ∙ s) in
            absurd (omega arith);
      }

  pub tally_place : get_or answers i 0 ≤ last_number → 2 + get_or answers i 0 < length after
  tally_place h = omega (arith, k.wide)

  pub tally_low : (c : ℕ) → i + 1 < 2 ^ 64 → get_or after c 0 + 1 < 2 ^ 64
  tally_low c f =
      let most = own_most c (take i answers) in
      let l = length_of_lem i answers k.within in
      omega (arith, k.each c, most, l)
    where
      length_of_lem : (j : ℕ) (xs : List ℕ) → j ≤ length xs → length (take j xs) ≤ j
      length_of_lem zero xs h = omega arith
      length_of_lem (suc j) [] h = omega arith
      length_of_lem (suc j) (x ∷ xs) h = omega (arith, length_of_lem j xs (omega arith))

  pub tally_turn : i < length answers → get_or answers i 0 ≤ last_number
      → TallySoFar answers room (set after (2 + get_or answers i 0) (get_or after (2 + get_or answers i 0) 0 + 1)) (i + 1)
  unfolding known
  tally_turn h b =
      record {
        each = λ c. go c (eqb c (2 + get_or answers i 0)) refl ∙ sym (own_last c (take i answers) (get_or answers i 0)) ∙ ap (own c) (sym (rw (← add-one i) at (take-suc answers i 0 h)));
        rest = k.rest ∙ ap known (drop-cons answers i 0 h) ∙ ap (λ (t : Bool). t && known (drop (suc i) answers)) (le-leb (get_or answers i 0) last_number b) ∙ ap (λ (j : ℕ). known (drop j answers)) (sym (add-one i));
        within = omega arith;
        wide = simp length-set k.wide;
        same = simp length-set k.same;
      }
    where
      go : (c : ℕ) (t : Bool) → eqb c (2 + get_or answers i 0) ≡ t
          → get_or (set after (2 + get_or answers i 0) (get_or after (2 + get_or answers i 0) 0 + 1)) c 0 ≡ own c (take i answers) + cond (eqb c (2 + get_or answers i 0)) 1 0
      go c true e =
          let s = eqb-true c (2 + get_or answers i 0) e in
          rw (e, s) (get_or-set_same after (2 + get_or answers i 0) (get_or after (2 + get_or answers i 0) 0 + 1) 0 (tally_place b) ∙ ap (λ (n : ℕ). n + 1) (k.each (2 + get_or answers i 0)))
      go c false e =
          rw e (get_or-set_other after (2 + get_or answers i 0) c (get_or after (2 + get_or answers i 0) 0 + 1) 0 (eqb-false c (2 + get_or answers i 0) e) ∙ k.each c ∙ sym (add-zero (own c (take i answers))))

  -- nothing left: the cell of number 0 has how many are accepted
  all_taken : length answers ≤ i → (c : ℕ) → get_or after c 0 ≡ own c answers
  all_taken h c = k.each c ∙ ap (own c) (take_all i answers h)

  -- room for the first three counters
  pub room_one : (x : ℕ) → 1 < length (set after 0 x)
  room_one x = simp length-set (omega (arith, k.wide))

  pub room-two : (x y : ℕ) → 2 < length (set (set after 0 x) 1 y)
  room-two x y = simp length-set (omega (arith, k.wide))

  pub accepted-most : length answers ≤ i → get_or after 2 0 ≤ length answers
  accepted-most h = omega (arith, all_taken h 2, own_most 2 answers)

  pub tally_end : length answers ≤ i → Tallied answers true (set (set (set after 0 (length answers)) 1 (get_or after 2 0)) 2 (length answers - get_or after 2 0))
  unfolding known
  tally_end h =
      record {
        told = sym (k.rest ∙ ap (λ (j : ℕ). known (drop j answers)) (all_of k.within h) ∙ ap known (drop-length answers));
        holds = λ e. holds-cells (λ c. count_of c answers) _ (simp length-set k.wide) (λ c f. cell c) (λ c f. far c f e);
      }
    where
      all_of : i ≤ length answers → length answers ≤ i → i ≡ length answers
      all_of a b = omega arith

      wide : counters ≤ length after
      wide = k.wide

      past : (c : ℕ) → 2 < c → get_or (set (set (set after 0 (length answers)) 1 (get_or after 2 0)) 2 (length answers - get_or after 2 0)) c 0 ≡ own c answers
      past c f =
          get_or-set_other (set (set after 0 (length answers)) 1 (get_or after 2 0)) 2 c _ 0 (λ e. omega arith)
          ∙ get_or-set_other (set after 0 (length answers)) 1 c _ 0 (λ e. omega arith)
          ∙ get_or-set_other after 0 c _ 0 (λ e. omega arith)
          ∙ all_taken h c

      cell : (c : ℕ) → get_or (set (set (set after 0 (length answers)) 1 (get_or after 2 0)) 2 (length answers - get_or after 2 0)) c 0 ≡ count_of c answers
      cell zero =
          get_or-set_other (set (set after 0 (length answers)) 1 (get_or after 2 0)) 2 0 _ 0 (λ e. omega arith)
          ∙ get_or-set_other (set after 0 (length answers)) 1 0 _ 0 (λ e. omega arith)
          ∙ get_or-set_same after 0 (length answers) 0 (omega (arith, wide))
          ∙ sym (count-inputs answers)
      cell (suc zero) =
          get_or-set_other (set (set after 0 (length answers)) 1 (get_or after 2 0)) 2 1 _ 0 (λ e. omega arith)
          ∙ get_or-set_same (set after 0 (length answers)) 1 (get_or after 2 0) 0 (simp length-set (omega (arith, wide)))
          ∙ all_taken h 2
          ∙ own_accepted answers
      cell (suc (suc zero)) =
          let x = all_taken h 2 ∙ own_accepted answers in
          get_or-set_same (set (set after 0 (length answers)) 1 (get_or after 2 0)) 2 (length answers - get_or after 2 0) 0 (simp length-set (omega (arith, wide)))
          ∙ omega (arith, x, count-both answers, count-inputs answers)
      cell (suc (suc (suc c))) = past (suc (suc (suc c))) (omega arith) ∙ own_refusal c answers

      far : (c : ℕ) → counters ≤ c → known answers ≡ true
          → get_or (set (set (set after 0 (length answers)) 1 (get_or after 2 0)) 2 (length answers - get_or after 2 0)) c 0 ≡ 0
      far c f e = past c (omega arith) ∙ own_none c answers f e
