-- What is promised of decimals: the laws of Digits, and that a number ends where a byte is no digit. Assumes nothing.
use mathlib.Core.Path.{◌≡◌, refl, ap}
use mathlib.Core.Bool.{Bool, true, false, cond}
use mathlib.Core.List.{List, [], ◌∷◌, ◌++◌}
use Prim.Native.Nat.{ℕ, zero, suc, ◌+◌, ◌-◌, ◌*◌, ◌/◌, ◌%◌, ◌≤◌, ◌<◌}
use native.Mathlib.Omega.{arith}
use borrow.Author.Tests.{ltb-true, ltb-false, le-leb, lt-leb}
use lib.Dec.{ltb, leb}
use lib.ListN.{length}
use Rattle.decimals.specs.Decimal.{digit, decimal, worth_from}
use Rattle.decimals.specs.Promised.{Digits, NoneInFront, Promised}
use Rattle.decimals.proofs.Digits.{decimal_last, decimal_more, worth-exact, front-some}

more_digits : (xs : List ℕ) (d : ℕ) → Digits xs → d < 10 → Digits (xs ++ digit d ∷ [])
more_digits [] d h k = (omega arith, omega arith, tt)
more_digits (x ∷ xs) d h k = (h.0, h.1, more_digits xs d h.2 k)

digits-upto : (f n : ℕ) → n ≤ f → Digits (decimal n)
digits-upto zero n h = rw (decimal_last n (omega arith)) (omega arith, omega arith, tt)
digits-upto (suc f) n h = go (ltb n 10) refl (digits-upto f (n / 10))
  where
    go : (t : Bool) → ltb n 10 ≡ t → (n / 10 ≤ f → Digits (decimal (n / 10))) → Digits (decimal n)
    go true e i =
        let l = ltb-true n 10 e in
        rw (decimal_last n l) (omega arith, omega arith, tt)
    go false e i =
        let more = ltb-false n 10 e in
        rw (decimal_more n more) (more_digits (decimal (n / 10)) (n % 10) (i (omega arith)) (omega arith))

all_digits : (n : ℕ) → Digits (decimal n)
all_digits n = digits-upto n n (omega arith)

no_zero : (n : ℕ) → NoneInFront (decimal n)
no_zero n e = go (ltb 0 n) refl
  where
    go : (t : Bool) → ltb 0 n ≡ t → length (decimal n) ≡ 1
    go true s = absurd (omega (arith, e, front-some n (ltb-true 0 n s)))
    go false s = ap length (decimal_last n (omega (arith, ltb-false 0 n s)))

-- the number that stands at the front, and what is behind it
abbrev parted : ℕ → List ℕ → ℕ × List ℕ
parted v [] = (v, [])
parted v (byte ∷ rest) = cond (leb 0x30 byte) (parted (v * 10 + (byte - 0x30)) rest) (v, byte ∷ rest)

digits-parted : (v : ℕ) (bytes : List ℕ) (after : ℕ) (xs : List ℕ) → Digits bytes → after ≤ 0x2F
    → parted v (bytes ++ after ∷ xs) ≡ (worth_from v bytes, after ∷ xs)
unfolding worth_from
digits-parted v [] after xs h k = rw (lt-leb 0x30 after (omega arith))
digits-parted v (byte ∷ bytes) after xs h k =
    rw (le-leb 0x30 byte h.0) (digits-parted (v * 10 + (byte - 0x30)) bytes after xs h.2 k)

abbrev behind : List ℕ → List ℕ
behind [] = []
behind (x ∷ xs) = xs

number-ended : (m n after : ℕ) (xs ys : List ℕ) → after ≤ 0x2F → decimal m ++ after ∷ xs ≡ decimal n ++ after ∷ ys → (m ≡ n) × (xs ≡ ys)
number-ended m n after xs ys k e =
    let both =
    digits-parted 0 (decimal m) after xs (all_digits m) k in
    let other = digits-parted 0 (decimal n) after ys (all_digits n) k in
    let same = rw (both, other, worth-exact m, worth-exact n) at (ap (parted 0) e) in
    (ap (λ (p : ℕ × List ℕ). p.0) same, ap (λ (p : ℕ × List ℕ). behind p.1) same)

pub decimals_keep_their_promises : Promised
decimals_keep_their_promises = record { exact = worth-exact; digits = all_digits; no_zero_in_front = no_zero; ended = number-ended }
