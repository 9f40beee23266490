-- A number's digits, the last one apart from those ahead of it; how many there are; and what they are worth.
-- Assumes nothing.
use mathlib.Core.Path.{◌≡◌, refl, sym, ap, ◌∙◌}
use mathlib.Core.Bool.{Bool, true, false, cond}
use mathlib.Core.List.{List, [], ◌∷◌, ◌++◌}
use Prim.Native.Nat.{ℕ, zero, suc, ◌+◌, ◌-◌, ◌*◌, ◌/◌, ◌%◌, ◌^◌, ◌≤◌, ◌<◌}
use native.Mathlib.Omega.{arith}
use native.Mathlib.Nat.{not-suc-le-zero}
use borrow.Author.Tests.{lt-ltb, le-ltb, ltb-true, ltb-false}
use lib.Dec.{ltb}
use lib.ListN.{length, length-append, get_or}
use lib.Pow.{pow-add}
use Rattle.decimals.specs.Decimal.{digit, digits_of, decimal, worth_from, worth}

-- the bound on the recursion does not show
enough : (f g n : ℕ) → n ≤ f → n ≤ g → digits_of f n ≡ digits_of g n
unfolding digits_of
enough zero zero n h k = refl
enough zero (suc g) zero h k = refl
enough zero (suc g) (suc n) h k = absurd (not-suc-le-zero h)
enough (suc f) zero zero h k = refl
enough (suc f) zero (suc n) h k = absurd (not-suc-le-zero k)
enough (suc f) (suc g) n h k =
    ap (λ (higher : List ℕ). cond (ltb n 10) (digit n ∷ []) (higher ++ digit (n % 10) ∷ [])) (enough f g (n / 10) (omega arith) (omega arith))

pub decimal_last : (n : ℕ) → n < 10 → decimal n ≡ digit n ∷ []
unfolding decimal digits_of
decimal_last zero h = refl
decimal_last (suc n) h = simp (lt-ltb (suc n) 10 h)

pub decimal_more : (n : ℕ) → 10 ≤ n → decimal n ≡ decimal (n / 10) ++ digit (n % 10) ∷ []
unfolding decimal digits_of
decimal_more zero h = absurd (not-suc-le-zero h)
decimal_more (suc n) h =
    simp (le-ltb (suc n) 10 h)
    (ap (λ (higher : List ℕ). higher ++ digit (suc n % 10) ∷ []) (enough n (suc n / 10) (suc n / 10) (omega arith) (omega arith)))

-- the digits ahead of a place: those of what is above it, none of 0
abbrev pub ahead : ℕ → List ℕ
ahead zero = []
ahead (suc n) = decimal (suc n)

ahead-some : (n : ℕ) → 0 < n → ahead n ≡ decimal n
ahead-some zero h = absurd (not-suc-le-zero h)
ahead-some (suc n) h = refl

pub decimal_split : (n : ℕ) → decimal n ≡ ahead (n / 10) ++ digit (n % 10) ∷ []
decimal_split n = go (ltb n 10) refl
  where
    go : (t : Bool) → ltb n 10 ≡ t → decimal n ≡ ahead (n / 10) ++ digit (n % 10) ∷ []
    go true e =
        let h = ltb-true n 10 e in
        let q : n / 10 ≡ 0 = omega arith in
        let r : n % 10 ≡ n = omega arith in
        decimal_last n h ∙ rw (q, r)
    go false e =
        let h = ltb-false n 10 e in
        decimal_more n h ∙ ap (λ (higher : List ℕ). higher ++ digit (n % 10) ∷ []) (sym (ahead-some (n / 10) (omega arith)))

pub ahead_more : (n : ℕ) → 0 < n → ahead n ≡ ahead (n / 10) ++ digit (n % 10) ∷ []
ahead_more n h = ahead-some n h ∙ decimal_split n

-- how many digits a number has
abbrev pub size : ℕ → ℕ
size n = length (decimal n)

pub size_split : (n : ℕ) → size n ≡ length (ahead (n / 10)) + 1
size_split n = ap length (decimal_split n) ∙ length-append (ahead (n / 10)) (digit (n % 10) ∷ [])

pub ahead-size : (n : ℕ) → 0 < n → length (ahead n) ≡ length (ahead (n / 10)) + 1
ahead-size n h = ap length (ahead_more n h) ∙ length-append (ahead (n / 10)) (digit (n % 10) ∷ [])

pub size-some : (n : ℕ) → 1 ≤ size n
size-some n = omega (arith, size_split n)

-- one power of ten more is one digit more at most
size_below : (k n : ℕ) → n < 10 ^ suc k → size n ≤ suc k
size_below zero n h = omega (arith, ap length (decimal_last n h))
size_below (suc k) n h = go (ltb n 10) refl (size_below k (n / 10))
  where
    go : (t : Bool) → ltb n 10 ≡ t → (n / 10 < 10 ^ suc k → size (n / 10) ≤ suc k) → size n ≤ suc (suc k)
    go true e i = omega (arith, ap length (decimal_last n (ltb-true n 10 e)))
    go false e i =
        let p = pow-add 10 1 (suc k) in
        let more = ltb-false n 10 e in
        let l = ap length (decimal_more n more) ∙ length-append (decimal (n / 10)) (digit (n % 10) ∷ []) in
        let b = i (omega (arith, p)) in
        omega (arith, l, b)

-- twenty digits hold any number of 64 bits
pub size_twenty : (n : ℕ) → n < 2 ^ 64 → size n ≤ 20
size_twenty n h = size_below 19 n (omega arith)

-- ---- worth

worth_last : (v : ℕ) (bytes : List ℕ) (b : ℕ) → worth_from v (bytes ++ b ∷ []) ≡ worth_from v bytes * 10 + (b - 0x30)
unfolding worth_from
worth_last v [] b = refl
worth_last v (x ∷ bytes) b = worth_last (v * 10 + (x - 0x30)) bytes b

worth-upto : (f n : ℕ) → n ≤ f → worth (decimal n) ≡ n
unfolding worth_from
worth-upto zero n h =
    let z : n ≡ 0 = omega arith in
    rw z (ap worth (decimal_last 0 (omega arith)))
worth-upto (suc f) n h = go (ltb n 10) refl (worth-upto f (n / 10))
  where
    go : (t : Bool) → ltb n 10 ≡ t → (n / 10 ≤ f → worth (decimal (n / 10)) ≡ n / 10) → worth (decimal n) ≡ n
    go true e i = ap worth (decimal_last n (ltb-true n 10 e)) ∙ omega arith
    go false e i =
        let more = ltb-false n 10 e in
        let l = ap worth (decimal_more n more) ∙ worth_last 0 (decimal (n / 10)) (digit (n % 10)) in
        let b = i (omega arith) in
        omega (arith, l, b)

pub worth-exact : (n : ℕ) → worth (decimal n) ≡ n
worth-exact n = worth-upto n n (omega arith)

-- ---- the bytes

-- a number that is not 0 starts with another digit
front-upto : (f n : ℕ) → n ≤ f → 0 < n → 0x30 < get_or (decimal n) 0 0
front-upto zero n h k = absurd (omega arith)
front-upto (suc f) n h k = go (ltb n 10) refl (front-upto f (n / 10))
  where
    go : (t : Bool) → ltb n 10 ≡ t → (n / 10 ≤ f → 0 < n / 10 → 0x30 < get_or (decimal (n / 10)) 0 0) → 0x30 < get_or (decimal n) 0 0
    go true e i = rw (decimal_last n (ltb-true n 10 e)) (omega arith)
    go false e i =
        let more = ltb-false n 10 e in
        rw (decimal_more n more) (first (decimal (n / 10)) (size-some (n / 10)) (i (omega arith) (omega arith)))
      where
        first : (xs : List ℕ) → 1 ≤ length xs → 0x30 < get_or xs 0 0 → 0x30 < get_or (xs ++ digit (n % 10) ∷ []) 0 0
        first [] l b = absurd (omega arith)
        first (x ∷ xs) l b = b

pub front-some : (n : ℕ) → 0 < n → 0x30 < get_or (decimal n) 0 0
front-some n h = front-upto n n (omega arith) h
