-- A number's groups of six bits, one at a time, and how many there are: never more for a smaller number.
-- Assumes nothing.
use Rattle.std.proofs.Common.{◌≡◌, ℕ, zero, suc, ◌+◌, ◌*◌, ◌/◌, ◌%◌, ◌^◌, ◌<◌, ◌≤◌, Bool, true, false, cond, ltb, List, [], ◌∷◌, length, refl, ap, ◌∙◌, not-suc-le-zero, arith, ltb-false, ltb-true, le-ltb, lt-ltb}
use Rattle.varint.specs.Writing.{groups_of, groups}

-- the bound on the recursion does not show
enough : (f g n : ℕ) → n ≤ f → n ≤ g → groups_of f n ≡ groups_of g n
unfolding groups_of
enough zero zero n h k = refl
enough zero (suc g) zero h k = refl
enough zero (suc g) (suc n) h k = absurd (not-suc-le-zero h)
enough (suc f) zero zero h k = refl
enough (suc f) zero (suc n) h k = absurd (not-suc-le-zero k)
enough (suc f) (suc g) n h k =
    ap (λ (rest : List ℕ). cond (ltb n 64) (n ∷ []) (n % 64 ∷ rest)) (enough f g (n / 64) (omega arith) (omega arith))

pub groups_last : (n : ℕ) → n < 64 → groups n ≡ n ∷ []
unfolding groups groups_of
groups_last zero h = refl
groups_last (suc n) h = simp (lt-ltb (suc n) 64 h)

pub groups_more : (n : ℕ) → 64 ≤ n → groups n ≡ n % 64 ∷ groups (n / 64)
unfolding groups groups_of
groups_more zero h = absurd (not-suc-le-zero h)
groups_more (suc n) h =
    simp (le-ltb (suc n) 64 h) (ap (λ (r : List ℕ). suc n % 64 ∷ r) (enough n (suc n / 64) (suc n / 64) (omega arith) (omega arith)))

-- how many bytes a number takes, in either order
abbrev pub size : ℕ → ℕ
size n = length (groups n)

pub size-last : (n : ℕ) → n < 64 → size n ≡ 1
size-last n h = ap length (groups_last n h)

pub size_more : (n : ℕ) → 64 ≤ n → size n ≡ 1 + size (n / 64)
size_more n h = ap length (groups_more n h) ∙ omega arith

-- every number takes a byte
pub size-some : (n : ℕ) → 1 ≤ size n
size-some n = go (ltb n 64) refl
  where
    go : (t : Bool) → ltb n 64 ≡ t → 1 ≤ size n
    go true e = omega (arith, size-last n (ltb-true n 64 e))
    go false e = omega (arith, size_more n (ltb-false n 64 e))

-- a smaller number takes no more bytes
mono : (f m n : ℕ) → n ≤ f → m ≤ n → size m ≤ size n
mono zero m n k h =
    let e : m ≡ n = omega arith in
    rw e (omega arith)
mono (suc f) m n k h = go (ltb m 64) (ltb n 64) refl refl (mono f (m / 64) (n / 64) (omega arith) (omega arith))
  where
    go : (s t : Bool) → ltb m 64 ≡ s → ltb n 64 ≡ t → size (m / 64) ≤ size (n / 64) → size m ≤ size n
    go s true e d i = omega (arith, size-last m (omega (arith, ltb-true n 64 d)), size-last n (ltb-true n 64 d))
    go true false e d i = omega (arith, size-last m (ltb-true m 64 e), size_more n (ltb-false n 64 d))
    go false false e d i = omega (arith, size_more m (ltb-false m 64 e), size_more n (ltb-false n 64 d))

pub size_mono : (m n : ℕ) → m ≤ n → size m ≤ size n
size_mono m n h = mono n m n (omega arith) h

-- one group below a number takes one byte more at most
pub size_below : (n g : ℕ) → g < 64 → size (n * 64 + g) ≤ 1 + size n
size_below n g h = go (ltb (n * 64 + g) 64) refl
  where
    go : (t : Bool) → ltb (n * 64 + g) 64 ≡ t → size (n * 64 + g) ≤ 1 + size n
    go true e = omega (arith, size-last (n * 64 + g) (ltb-true _ 64 e))
    go false e =
        let q : (n * 64 + g) / 64 ≡ n = omega arith in
        omega (arith, size_more (n * 64 + g) (ltb-false _ 64 e), ap size q)

-- six bytes hold any number of 32 bits
six : size 4294967295 ≡ 6
unfolding groups groups_of
six = refl

pub size_six : (n : ℕ) → n < 2 ^ 32 → size n ≤ 6
size_six n h = omega (arith, six, size_mono n 4294967295 (omega arith))
