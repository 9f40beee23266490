-- What holds at each turn of the two loops over a number's digits. Assumes nothing.
use mathlib.Core.Path.{◌≡◌, refl, sym, ap, ◌∙◌}
use mathlib.Core.Bool.{Bool, true, false}
use mathlib.Core.List.{List, [], ◌∷◌, ◌++◌}
use Prim.Native.Nat.{ℕ, suc, ◌+◌, ◌-◌, ◌/◌, ◌%◌, ◌^◌, ◌≤◌, ◌<◌}
use native.Mathlib.Nat.{add-zero}
use native.Mathlib.Omega.{arith}
use borrow.Author.Tests.{ltb-true, ltb-false}
use lib.Dec.{ltb}
use lib.ListN.{length, set, length-set}
use lib.Seq.{sets, set_comm}
use Rattle.decimals.specs.Decimal.{digit, decimal}
use Rattle.decimals.proofs.Digits.{ahead, decimal_split, ahead_more, size, size_split, ahead-size, size-some, size_twenty}

-- ---- digit_count

-- the digits counted and those of `above` are all
pub record CountSoFar (n count above : ℕ) : Type 0 where
  pub all : count + length (ahead above) ≡ size n
  pub some : 1 ≤ count
  pub most : size n ≤ 20

pub count-start : (n : ℕ) → n < 2 ^ 64 → CountSoFar n 1 (n / 10)
count-start n h = record { all = omega (arith, size_split n); some = omega arith; most = size_twenty n h }

module _ {n count above : ℕ} (k : CountSoFar n count above) where
  pub count_turn : 0 < above → CountSoFar n (count + 1) (above / 10)
  count_turn h = record { all = omega (arith, k.all, ahead-size above h); some = omega arith; most = k.most }

  pub count_end : above ≤ 0 → (count ≡ size n) × (1 ≤ count) × (count ≤ 20)
  count_end h =
      let z : above ≡ 0 = omega arith in
      let none = ap (λ (m : ℕ). length (ahead m)) z in
      let e : count ≡ size n = omega (arith, k.all, none) in
      (e, k.some, omega (arith, k.most))

-- ---- put_decimal

-- a byte stored beyond those that are to come
sets_last : (out : List ℕ) (at : ℕ) (bytes : List ℕ) (b : ℕ) → sets out at (bytes ++ b ∷ []) ≡ sets (set out (at + length bytes) b) at bytes
sets_last out at [] b = rw add-zero
sets_last out at (x ∷ bytes) b =
    let e : suc at + length bytes ≡ at + suc (length bytes) = omega arith in
    sets_last (set out at x) (suc at) bytes b
    ∙ ap (λ (l : List ℕ). sets l (suc at) bytes) (set_comm out at (suc at + length bytes) x b (λ d. omega arith))
    ∙ ap (λ (n : ℕ). sets (set (set out n b) at x) (suc at) bytes) e

-- the digits from i on stand, those of `above` go in front; the last one stood from the start
pub record PutSoFar (out₀ : List ℕ) (at n : ℕ) (out : List ℕ) (i above : ℕ) : Type 0 where
  pub comes : sets out at (ahead above) ≡ sets out₀ at (ahead (n / 10))
  pub place : at + length (ahead above) ≡ i
  pub within : i < length out
  pub same : length out ≡ length out₀

-- the place of the last digit
last_place : (at n : ℕ) → at + length (ahead (n / 10)) ≡ at + size n - 1
last_place at n = omega (arith, size_split n)

pub put-start : (out : List ℕ) (at n end : ℕ) → end ≡ at + size n → at + size n ≤ length out → PutSoFar out at n out (end - 1) (n / 10)
put-start out at n end e k =
    record {
      comes = refl;
      place = last_place at n ∙ ap (λ (m : ℕ). m - 1) (sym e);
      within = omega (arith, size-some n);
      same = refl;
    }

module _ {out₀ out : List ℕ} {at n i above : ℕ} (k : PutSoFar out₀ at n out i above) where
  -- digits to come are those of a number that is not zero
  some-above : at < i → 0 < above
  some-above h = go (ltb 0 above) refl
    where
      go : (t : Bool) → ltb 0 above ≡ t → 0 < above
      go true e = ltb-true 0 above e
      go false e =
          let z : above ≡ 0 = omega (arith, ltb-false 0 above e) in
          absurd (omega (arith, k.place, ap (λ (m : ℕ). length (ahead m)) z))

  pub put-turn : at < i → PutSoFar out₀ at n (set out (i - 1) (digit (above % 10))) (i - 1) (above / 10)
  put-turn h =
      let m = ahead_more above (some-above h) in
      let l = ahead-size above (some-above h) in
      let e : at + length (ahead (above / 10)) ≡ i - 1 = omega (arith, k.place) in
      record {
        comes = rw (← e) (sym (sets_last out at (ahead (above / 10)) (digit (above % 10))) ∙ rw m at k.comes);
        place = e;
        within = simp length-set (omega (arith, k.within));
        same = simp length-set k.same;
      }

  -- nothing in front
  pub put_end : (lent : List ℕ) (end : ℕ) → out₀ ≡ set lent (end - 1) (digit (n % 10)) → end ≡ at + size n → i ≤ at
      → out ≡ sets lent at (decimal n)
  put_end lent end first e h =
      rw (go (ahead above) k.comes k.place, first, decimal_split n, e, ← last_place at n)
      (sym (sets_last lent at (ahead (n / 10)) (digit (n % 10))))
    where
      go : (bytes : List ℕ) → sets out at bytes ≡ sets out₀ at (ahead (n / 10)) → at + length bytes ≡ i
          → out ≡ sets out₀ at (ahead (n / 10))
      go [] e p = e
      go (b ∷ bytes) e p = absurd (omega arith)
