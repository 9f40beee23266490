-- Bytes that stand at a place of the input, and the numbers and contents that are read there: the way back from Canonical's bytes. Assumes
-- nothing.
use mathlib.Core.Path.{◌≡◌, refl, sym, ap, ap₂, ◌∙◌}
use Prim.Native.Nat.{ℕ, zero, suc, ◌+◌, ◌-◌, ◌*◌, ◌/◌, ◌%◌, ◌≤◌, ◌<◌}
use native.Mathlib.Omega.{arith}
use native.Mathlib.Nat.{add-zero, zero-add}
use mathlib.Core.Bool.{Bool, true, false, cond}
use mathlib.Core.List.{List, [], ◌∷◌, ◌++◌}
use lib.ListN.{length, get_or, take, drop, length-append, length-drop}
use lib.Seq.{get_or-drop, drop-drop, take-append_seam, drop-append_seam, take-nil}
use lib.Dec.{leb, ltb}
use borrow.Author.Tests.{lt-ltb, le-ltb, ltb-true, leb-true}
use Rattle.grammar.specs.Fields.{le16, le32, le64, contents}
use Rattle.grammar.specs.Leaf.{magnitude}
use Rattle.writing.specs.Canonical.{Integer, bytes16, bytes32, bytes64, of_bits, bits_of, in_signed32, digits_from, digit_bytes}

-- The list l stands in s from the place a on.
module _ (s : List ℕ) (a : ℕ) (l : List ℕ) (h : drop a s ≡ l) where
  pub byte_at : (i : ℕ) → get_or s (a + i) 0 ≡ get_or l i 0
  byte_at i = sym (get_or-drop a s i 0) ∙ ap (λ x. get_or x i 0) h

  pub byte_first : get_or s a 0 ≡ get_or l 0 0
  byte_first = ap (λ i. get_or s i 0) (sym (add-zero a)) ∙ byte_at 0

  pub length_at : a ≤ length s → a + length l ≡ length s
  length_at w = omega (arith, length-drop a s, ap length h)

  pub drop_at : (m : ℕ) → drop (a + m) s ≡ drop m l
  drop_at m = sym (drop-drop m a s) ∙ ap (drop m) h

-- past a list that stands there
pub past : (s : List ℕ) (a : ℕ) (l r : List ℕ) → drop a s ≡ l ++ r → drop (a + length l) s ≡ r
past s a l r h = drop_at s a (l ++ r) h (length l) ∙ drop-append_seam l r

pub fits : (s : List ℕ) (a : ℕ) (l r : List ℕ) → drop a s ≡ l ++ r → a ≤ length s → a + length l ≤ length s
fits s a l r h w = omega (arith, length_at s a (l ++ r) h w, length-append l r)

pub contents_at : (s : List ℕ) (a : ℕ) (l r : List ℕ) → drop a s ≡ l ++ r → contents s a (length l) ≡ l
contents_at s a l r h = cut a s ∙ ap (take (length l)) h ∙ take-append_seam l r
  where
    cut : (a : ℕ) (s : List ℕ) → drop a (take (a + length l) s) ≡ take (length l) (drop a s)
    cut zero s = ap (λ k. take k s) (zero-add (length l))
    cut (suc a) [] = ap (drop (suc a)) (take-nil (suc a + length l)) ∙ sym (take-nil (length l))
    cut (suc a) (x ∷ s) =
        let e : suc a + length l ≡ suc (a + length l) = omega arith in
        rw e (cut a s)

pub word_back : (x : ℕ) → x < 4294967296 → x % 256 + x / 256 % 256 * 256 + x / 256 / 256 % 256 * 65536 + x / 256 / 256 / 256 % 256 * 16777216 ≡ x
word_back x h = omega arith

pub half_at : (s : List ℕ) (a x : ℕ) (r : List ℕ) → x < 65536 → drop a s ≡ bytes16 x ++ r → le16 s a ≡ x
half_at s a x r h d = rw (byte_first s a (bytes16 x ++ r) d, byte_at s a (bytes16 x ++ r) d 1) (back x h)
  where
    back : (x : ℕ) → x < 65536 → x % 256 + x / 256 % 256 * 256 ≡ x
    back x h = omega arith

pub word_at : (s : List ℕ) (a x : ℕ) (r : List ℕ) → x < 4294967296 → drop a s ≡ bytes32 x ++ r → le32 s a ≡ x
word_at s a x r h d =
    rw (byte_first s a (bytes32 x ++ r) d, byte_at s a (bytes32 x ++ r) d 1, byte_at s a (bytes32 x ++ r) d 2, byte_at s a (bytes32 x ++ r) d 3) (word_back x h)

two-words : (s : List ℕ) (a : ℕ) → le64 s a ≡ le32 s a + le32 s (a + 4) * 4294967296
two-words s a =
    let e : a + 4 + 1 ≡ a + 5 = omega arith in
    let f : a + 4 + 2 ≡ a + 6 = omega arith in
    let g : a + 4 + 3 ≡ a + 7 = omega arith in
    rw (e, f, g) (omega arith)

pub long_at_lem : (s : List ℕ) (a x : ℕ) (r : List ℕ) → x < 18446744073709551616 → drop a s ≡ bytes64 x ++ r → le64 s a ≡ x
long_at_lem s a x r h d =
    two-words s a
    ∙ ap₂ (λ y z. y + z * 4294967296) (word_at s a (x % 4294967296) (bytes32 (x / 4294967296) ++ r) (omega arith) d)
    (word_at s (a + 4) (x / 4294967296) r (omega arith) (drop_at s a (bytes64 x ++ r) d 4))
    ∙ omega arith

-- An integer from its bits.
pub bits_back : (half : ℕ) (z : Integer) → (z.negative ≡ true → (0 < z.magnitude) × (z.magnitude ≤ half)) → (z.negative ≡ false → z.magnitude < half)
    → (of_bits half (bits_of (half + half) z) ≡ z) × (bits_of (half + half) z < half + half)
bits_back half z p q = go z.negative z.magnitude p q
  where
    go : (n : Bool) (m : ℕ) → (n ≡ true → (0 < m) × (m ≤ half)) → (n ≡ false → m < half)
        → (of_bits half (bits_of (half + half) (record { negative = n; magnitude = m })) ≡ record { negative = n; magnitude = m })
        × (bits_of (half + half) (record { negative = n; magnitude = m }) < half + half)
    go true m p q =
        let h = p refl in
        let e : half + half - (half + half - m) ≡ m = omega (arith, h.0, h.1) in
        (rw (le-ltb (half + half - m) half (omega (arith, h.0, h.1)), e) refl, omega (arith, h.0, h.1))
    go false m p q = (rw (lt-ltb m half (q refl)) refl, omega (arith, q refl))

pub in_signed32_lem : (z : Integer) → (z.negative ≡ true → 0 < z.magnitude) → in_signed32 z ≡ true
    → (of_bits 2147483648 (bits_of 4294967296 z) ≡ z) × (bits_of 4294967296 z < 4294967296)
in_signed32_lem z p e = go z.negative z.magnitude p e
  where
    go : (n : Bool) (m : ℕ) → (n ≡ true → 0 < m) → cond n (leb m 2147483648) (ltb m 2147483648) ≡ true
        → (of_bits 2147483648 (bits_of 4294967296 (record { negative = n; magnitude = m })) ≡ record { negative = n; magnitude = m })
        × (bits_of 4294967296 (record { negative = n; magnitude = m }) < 4294967296)
    go true m p e = bits_back 2147483648 (record { negative = true; magnitude = m }) (λ q. (p refl, leb-true m 2147483648 e)) (λ q. let z : ◌≡◌ {A = ℕ} 0 1 = cc in absurd (omega arith))
    go false m p e = bits_back 2147483648 (record { negative = false; magnitude = m }) (λ q. let z : ◌≡◌ {A = ℕ} 0 1 = cc in absurd (omega arith)) (λ q. ltb-true m 2147483648 e)

-- A long: its digits are below 2^15, the last is not zero, and they are the number's.
abbrev pub Digits : List ℕ → Type 0
Digits [] = Unit
Digits (d ∷ ds) = (d < 32768) × Digits ds

pub digits-below : (bound m : ℕ) → Digits (digits_from bound m)
unfolding digits_from
digits-below zero m = tt
digits-below (suc bound) zero = tt
digits-below (suc bound) (suc m) = (omega arith, digits-below bound (suc m / 32768))

abbrev pub total : List ℕ → ℕ
total [] = 0
total (d ∷ ds) = d + 32768 * total ds

pub digits-total : (bound m : ℕ) → m ≤ bound → total (digits_from bound m) ≡ m
unfolding digits_from
digits-total zero m h = omega arith
digits-total (suc bound) zero h = refl
digits-total (suc bound) (suc m) h =
    let e = digits-total bound (suc m / 32768) (omega arith) in
    rw e (omega arith)

-- a last digit is not zero
abbrev pub last_of : List ℕ → ℕ
last_of [] = 1
last_of (d ∷ []) = d
last_of (d ∷ e ∷ ds) = last_of (e ∷ ds)

pub digits_last : (bound m : ℕ) → m ≤ bound → 0 < last_of (digits_from bound m)
unfolding digits_from
digits_last zero m h = omega arith
digits_last (suc bound) zero h = omega arith
digits_last (suc bound) (suc m) h = go (digits_from bound (suc m / 32768)) (digits-total bound (suc m / 32768) (omega arith)) (digits_last bound (suc m / 32768) (omega arith))
  where
    go : (ds : List ℕ) → total ds ≡ suc m / 32768 → 0 < last_of ds → 0 < last_of (suc m % 32768 ∷ ds)
    go [] e l = omega (arith, e)
    go (d ∷ ds) e l = l

pub magnitude_at : (s : List ℕ) (ds : List ℕ) (a : ℕ) (r : List ℕ) → Digits ds → drop a s ≡ digit_bytes ds ++ r → magnitude s (length ds) a ≡ total ds
unfolding magnitude digit_bytes
magnitude_at s [] a r h d = refl
magnitude_at s (x ∷ xs) a r h d =
    rw (half_at s a x (digit_bytes xs ++ r) (omega (arith, h.0)) d, magnitude_at s xs (a + 2) r h.1 (drop_at s a (bytes16 x ++ digit_bytes xs ++ r) d 2)) refl
