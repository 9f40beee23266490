-- The k-th start over the records: how it splits, that it inverts the count, and that a block of an index that was built finds it.
-- Assumes nothing.
use Rattle.std.proofs.Common.{◌≡◌, ℕ, zero, suc, ◌+◌, ◌-◌, ◌<◌, ◌≤◌, Bool, true, false, cond, eqb, List, sym, refl, ap, ◌∙◌, add-zero, zero-add, arith, eq-eqb, ne_eqb, eqb-true}
use Rattle.std.specs.Prelude.{None, Some}
use borrow.Author.Tests.{eqb-false}
use Rattle.startindex.specs.Starts.{is_start, bit, starts_in, kth_start}
use Rattle.startindex.specs.Index.{word_of}
use Rattle.startindex.proofs.Counts.{word_low, word_rest}
use Rattle.starts.specs.Questions.{kth_bit}

-- ---- over the records

pub kth_zero : (rs : List ℕ) (i n : ℕ) → kth_start rs i n 0 ≡ None
unfolding kth_start
kth_zero rs i zero = refl
kth_zero rs i (suc n) = go (is_start rs i) (kth_zero rs (i + 1) n) where
  go : (b : Bool) → kth_start rs (i + 1) n 0 ≡ None → cond b (kth_start rs (i + 1) n 0) (kth_start rs (i + 1) n 0) ≡ None
  go true e = e
  go false e = e

positive : (m : ℕ) → (m ≡ 0 → ⊥) → 0 < m
positive zero z = absurd (z refl)
positive (suc m) z = omega arith

-- one step: the instruction is the k-th, or it is not
step : (rs : List ℕ) (i n k : ℕ) → 0 < k → kth_start rs i (suc n) k ≡ cond (eqb (k - bit (is_start rs i)) 0) (Some i) (kth_start rs (i + 1) n (k - bit (is_start rs i)))
unfolding kth_start
step rs i n k h = go (is_start rs i) where
  one : (t : Bool) → eqb k 1 ≡ t → cond t (Some i) (kth_start rs (i + 1) n (k - 1)) ≡ cond (eqb (k - 1) 0) (Some i) (kth_start rs (i + 1) n (k - 1))
  one true e = rw (eq-eqb (k - 1) 0 (omega (arith, eqb-true k 1 e)))
  one false e = rw (ne_eqb (k - 1) 0 (λ z. eqb-false k 1 e (omega arith)))

  go : (b : Bool) → cond b (cond (eqb k 1) (Some i) (kth_start rs (i + 1) n (k - 1))) (kth_start rs (i + 1) n k) ≡ cond (eqb (k - bit b) 0) (Some i) (kth_start rs (i + 1) n (k - bit b))
  go true = one (eqb k 1) refl
  go false = let z : k - 0 ≡ k = omega arith in rw (z, ne_eqb k 0 (λ e. omega arith))

pub kth_empty : (rs : List ℕ) (i k : ℕ) → kth_start rs i 0 k ≡ None
unfolding kth_start
kth_empty rs i k = refl

-- more than there are: none
pub kth_more : (rs : List ℕ) (i n k : ℕ) → starts_in rs i n < k → kth_start rs i n k ≡ None
unfolding starts_in
kth_more rs i zero k h = kth_empty rs i k
kth_more rs i (suc n) k h =
    step rs i n k (omega arith) ∙ rw (ne_eqb (k - bit (is_start rs i)) 0 (λ z. omega arith)) (kth_more rs (i + 1) n (k - bit (is_start rs i)) (omega arith))

-- among the first a there are k or more: it is one of them
pub kth-within : (rs : List ℕ) (a b i k : ℕ) → 0 < k → k ≤ starts_in rs i a → kth_start rs i (a + b) k ≡ kth_start rs i a k
unfolding starts_in
kth-within rs zero b i k p h = absurd (omega arith)
kth-within rs (suc a) b i k p h =
    let e : suc a + b ≡ suc (a + b) = omega arith in
    ap (λ (m : ℕ). kth_start rs i m k) e ∙ step rs i (a + b) k p
    ∙ go (eqb (k - bit (is_start rs i)) 0) refl (λ q. kth-within rs a b (i + 1) (k - bit (is_start rs i)) q (omega arith))
    ∙ sym (step rs i a k p) where
      go : (t : Bool) → eqb (k - bit (is_start rs i)) 0 ≡ t
          → (0 < k - bit (is_start rs i) → kth_start rs (i + 1) (a + b) (k - bit (is_start rs i)) ≡ kth_start rs (i + 1) a (k - bit (is_start rs i)))
          → cond t (Some i) (kth_start rs (i + 1) (a + b) (k - bit (is_start rs i))) ≡ cond t (Some i) (kth_start rs (i + 1) a (k - bit (is_start rs i)))
      go true e ih = refl
      go false e ih = ih (positive (k - bit (is_start rs i)) (eqb-false (k - bit (is_start rs i)) 0 e))

-- among the first a there are fewer: it is one of the others
pub kth-behind : (rs : List ℕ) (a b i k : ℕ) → starts_in rs i a < k → kth_start rs i (a + b) k ≡ kth_start rs (i + a) b (k - starts_in rs i a)
unfolding starts_in
kth-behind rs zero b i k h =
    let z : k - 0 ≡ k = omega arith in
    rw (zero-add b, add-zero i, z)
kth-behind rs (suc a) b i k h =
    let e : suc a + b ≡ suc (a + b) = omega arith in
    let f : i + suc a ≡ i + 1 + a = omega arith in
    let g : k - bit (is_start rs i) - starts_in rs (i + 1) a ≡ k - (bit (is_start rs i) + starts_in rs (i + 1) a) = omega arith in
    ap (λ (m : ℕ). kth_start rs i m k) e ∙ step rs i (a + b) k (omega arith)
    ∙ ap (λ (t : Bool). cond t (Some i) (kth_start rs (i + 1) (a + b) (k - bit (is_start rs i)))) (ne_eqb (k - bit (is_start rs i)) 0 (λ z. omega arith))
    ∙ kth-behind rs a b (i + 1) (k - bit (is_start rs i)) (omega arith) ∙ rw (f, g)

-- ---- it inverts the count
abbrev Inverts : List ℕ → ℕ → ℕ → ℕ → ℕ → Type 0
Inverts rs i n k p = (i ≤ p) × (p < i + n) × (is_start rs p ≡ true) × (starts_in rs i (p - i) + 1 ≡ k)

here : (rs : List ℕ) (i n : ℕ) → is_start rs i ≡ true → Inverts rs i (suc n) 1 i
unfolding starts_in
here rs i n s = let d : i - i ≡ 0 = omega arith in (omega arith, omega arith, s, rw d)

later : (rs : List ℕ) (i n c k p : ℕ) → c + bit (is_start rs i) ≡ k → Inverts rs (i + 1) n c p → Inverts rs i (suc n) k p
unfolding starts_in
later rs i n c k p m ih =
    let d : p - i ≡ suc (p - (i + 1)) = omega (arith, ih.0) in
    (omega (arith, ih.0), omega (arith, ih.1), ih.2, rw d (omega (arith, ih.3, m)))

pub kth-inverts : (rs : List ℕ) (n i k p : ℕ) → 0 < k → kth_start rs i n k ≡ Some p → Inverts rs i n k p
kth-inverts rs zero i k p h e = let z : ◌≡◌ {A = ℕ} 0 1 = cc (kth_empty rs i k) in absurd (omega arith)
kth-inverts rs (suc n) i k p h e =
    go (eqb (k - bit (is_start rs i)) 0) refl (sym (step rs i n k h) ∙ e) (λ q g. kth-inverts rs n (i + 1) (k - bit (is_start rs i)) p q g) where
      starts : (b : Bool) → is_start rs i ≡ b → k - bit b ≡ 0 → (is_start rs i ≡ true) × (k ≡ 1)
      starts true s z = (s, omega arith)
      starts false s z = absurd (omega arith)

      go : (t : Bool) → eqb (k - bit (is_start rs i)) 0 ≡ t → cond t (Some i) (kth_start rs (i + 1) n (k - bit (is_start rs i))) ≡ Some p
          → (0 < k - bit (is_start rs i) → kth_start rs (i + 1) n (k - bit (is_start rs i)) ≡ Some p → Inverts rs (i + 1) n (k - bit (is_start rs i)) p) → Inverts rs i (suc n) k p
      go true t g ih =
          let same : i ≡ p = cc in
          let both = starts (is_start rs i) refl (eqb-true (k - bit (is_start rs i)) 0 t) in
          rw (both.1, ← same) (here rs i n both.0)
      go false t g ih =
          let q = positive (k - bit (is_start rs i)) (eqb-false (k - bit (is_start rs i)) 0 t) in
          later rs i n (k - bit (is_start rs i)) k p (omega (arith, q)) (ih q g)

-- every start is the k-th for one k
pub kth-reaches : (rs : List ℕ) (count p : ℕ) → p < count → is_start rs p ≡ true → kth_start rs 0 count (starts_in rs 0 p + 1) ≡ Some p
kth-reaches rs count p h s =
    let e : count ≡ p + suc (count - (p + 1)) = omega arith in
    let k : starts_in rs 0 p + 1 - starts_in rs 0 p ≡ 1 = omega arith in
    let z : 1 - bit (is_start rs p) ≡ 0 = rw s in
    ap (λ (m : ℕ). kth_start rs 0 m (starts_in rs 0 p + 1)) e
    ∙ kth-behind rs p (suc (count - (p + 1))) 0 (starts_in rs 0 p + 1) (omega arith)
    ∙ rw (k, zero-add p) (step rs p (count - (p + 1)) 1 (omega arith) ∙ rw (eq-eqb (1 - bit (is_start rs p)) 0 z))

pub kth-lacks : (rs : List ℕ) (i n k : ℕ) → kth_start rs i n k ≡ None → 0 < k → starts_in rs i n < k
unfolding starts_in
kth-lacks rs i zero k e h = h
kth-lacks rs i (suc n) k e h = go (eqb (k - bit (is_start rs i)) 0) refl (sym (step rs i n k h) ∙ e) (λ g q. kth-lacks rs (i + 1) n (k - bit (is_start rs i)) g q) where
  go : (t : Bool) → eqb (k - bit (is_start rs i)) 0 ≡ t → cond t (Some i) (kth_start rs (i + 1) n (k - bit (is_start rs i))) ≡ None
      → (kth_start rs (i + 1) n (k - bit (is_start rs i)) ≡ None → 0 < k - bit (is_start rs i) → starts_in rs (i + 1) n < k - bit (is_start rs i))
      → bit (is_start rs i) + starts_in rs (i + 1) n < k
  go true t g ih = let z : ◌≡◌ {A = ℕ} 0 1 = cc in absurd (omega arith)
  go false t g ih = omega (arith, ih g (positive (k - bit (is_start rs i)) (eqb-false (k - bit (is_start rs i)) 0 t)))

-- ---- in a word, in words, in a block
pub bit_found : (rs : List ℕ) (d i n k : ℕ) → n ≤ d → 0 < k → k ≤ starts_in rs i n → kth_start rs i n k ≡ Some (i + kth_bit d (word_of rs i n) k)
unfolding starts_in kth_bit
bit_found rs d i zero k l p h = absurd (omega arith)
bit_found rs zero i (suc n) k l p h = absurd (omega arith)
bit_found rs (suc d) i (suc n) k l p h =
    step rs i n k p
    ∙ go (eqb (k - bit (is_start rs i)) 0) refl (λ q. bit_found rs d (i + 1) n (k - bit (is_start rs i)) (omega arith) q (omega arith))
    ∙ rw (word_low rs i n, word_rest rs i n) where
      go : (t : Bool) → eqb (k - bit (is_start rs i)) 0 ≡ t
          → (0 < k - bit (is_start rs i) → kth_start rs (i + 1) n (k - bit (is_start rs i)) ≡ Some (i + 1 + kth_bit d (word_of rs (i + 1) n) (k - bit (is_start rs i))))
          → cond t (Some i) (kth_start rs (i + 1) n (k - bit (is_start rs i))) ≡ Some (i + cond t 0 (suc (kth_bit d (word_of rs (i + 1) n) (k - bit (is_start rs i)))))
      go true t ih = rw (add-zero i)
      go false t ih = ih (positive (k - bit (is_start rs i)) (eqb-false (k - bit (is_start rs i)) 0 t)) ∙ ap Some (omega arith)
