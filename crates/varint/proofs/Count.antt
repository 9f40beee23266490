-- How many bytes a number takes, by its leading zeros: each group of six bits is one byte, and the place of the highest set bit counts
-- the groups below its own. The induction is over that place, six at a time. Assumes nothing.
use Rattle.std.proofs.Common.{◌≡◌, ℕ, zero, suc, ◌+◌, ◌-◌, ◌*◌, ◌/◌, ◌%◌, ◌^◌, ◌<◌, ◌≤◌, max, Bool, true, false, ltb, sym, refl, ap, ◌∙◌, arith, pow_mono, pow-add, ltb-false, ltb-true}
use lib.Bits.{bit_or, or_step, or_zero_r}
use lib.Count.{count_leading_zeros, leading_top}
use Rattle.varint.proofs.Groups.{size, size-last, size_more}

-- six bits more are 64 times as much
six_more : (i j : ℕ) → 6 + i ≡ j → 2 ^ j ≡ 64 * 2 ^ i
six_more i j e = ap (λ (k : ℕ). 2 ^ k) (sym e) ∙ pow-add 2 6 i

-- a number whose highest set bit has the place j
top_size : (f j n : ℕ) → j ≤ f → 2 ^ j ≤ n → n < 2 ^ suc j → size n ≡ 1 + j / 6
top_size zero j n h low high =
    let e : j ≡ 0 = omega arith in
    let k : n < 2 = rw e at high in
    omega (arith, size-last n (omega arith))
top_size (suc f) j n h low high = go (ltb j 6) refl (λ (i m : ℕ). top_size f i m)
  where
    go : (t : Bool) → ltb j 6 ≡ t → ((i m : ℕ) → i ≤ f → 2 ^ i ≤ m → m < 2 ^ suc i → size m ≡ 1 + i / 6) → size n ≡ 1 + j / 6
    go true e i =
        let below = ltb-true j 6 e in
        let most = pow_mono {i = suc j} {j = 6} below in
        omega (arith, size-last n (omega arith))
    go false e i =
        let above = ltb-false j 6 e in
        let a = six_more (j - 6) j (omega arith) in
        let b = six_more (suc (j - 6)) (suc j) (omega arith) in
        let least = pow_mono {i = 6} {j = j} above in
        omega (arith, size_more n (omega arith), i (j - 6) (n / 64) (omega arith) (omega arith) (omega arith))

either : (b : ℕ) → b < 2 → max b 1 ≡ 1
either zero h = refl
either (suc zero) h = refl
either (suc (suc b)) h = absurd (omega arith)

-- a number with its lowest bit set
odd : (n : ℕ) → bit_or n 1 ≡ n / 2 * 2 + 1
odd n = or_step n 1 ∙ rw or_zero_r (ap (λ (b : ℕ). n / 2 * 2 + b) (either (n % 2) (omega arith)))

-- takes as many bytes
odd_size : (n : ℕ) → size (n / 2 * 2 + 1) ≡ size n
odd_size n = go (ltb n 64) refl
  where
    go : (t : Bool) → ltb n 64 ≡ t → size (n / 2 * 2 + 1) ≡ size n
    go true e =
        let h = ltb-true n 64 e in
        omega (arith, size-last n h, size-last (n / 2 * 2 + 1) (omega arith))
    go false e =
        let h = ltb-false n 64 e in
        let q : (n / 2 * 2 + 1) / 64 ≡ n / 64 = omega arith in
        size_more (n / 2 * 2 + 1) (omega arith) ∙ ap (λ (m : ℕ). 1 + size m) q ∙ sym (size_more n h)

-- the leading zeros of a number, its lowest bit set, tell how many bytes it takes
pub zeros-size : (n : ℕ) → n < 2 ^ 32 → (37 - count_leading_zeros 32 (bit_or n 1)) / 6 ≡ size n
zeros-size n h =
    let top = leading_top 32 (n / 2 * 2 + 1) (omega arith) (omega arith) in
    let s = top_size top.0 top.0 (n / 2 * 2 + 1) (omega arith) top.2 top.3 in
    rw (odd n) (omega (arith, s, odd_size n, top.1))
