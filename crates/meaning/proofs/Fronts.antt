-- The fields of Canonical's bytes tell what they are of: two fronts of one kind, each with anything after it, are the same bytes only if they
-- are of the same number, contents, integer or string, and what comes after is the same. Assumes nothing.
use mathlib.Core.Path.{◌≡◌, refl, sym, ap, ◌∙◌}
use Prim.Native.Nat.{ℕ, ◌+◌, ◌-◌, ◌*◌, ◌/◌, ◌%◌, ◌≤◌, ◌<◌}
use native.Mathlib.Omega.{arith}
use mathlib.Core.Bool.{Bool, true, false, cond, ◌&&◌}
use mathlib.Core.List.{List, [], ◌∷◌, ◌++◌}
use lib.ListN.{length}
use lib.Dec.{leb, ltb}
use borrow.Author.Tests.{leb-true, leb-false, ltb-true, ltb-false}
use Rattle.writing.specs.Canonical.{Integer, bytes32, bytes64, words, bits_of, in_signed32, digits_of, digit_bytes, long_bytes, integer_bytes, sized, ascii, code_string}
use Rattle.meaning.specs.Proper.{Below, lengths, Signed}
use Rattle.meaning.proofs.At.{word_back, Digits, digits-below, total, digits-total}

-- the first bytes of two lists that are the same, and what comes after them
pub firsts : (x y : ℕ) (xs ys : List ℕ) → x ∷ xs ≡ y ∷ ys → x ≡ y
firsts x y xs ys e = cc

pub afters : (x y : ℕ) (xs ys : List ℕ) → x ∷ xs ≡ y ∷ ys → xs ≡ ys
afters x y xs ys e = cc

-- Numbers.
pub word_front : (x y : ℕ) (r r' : List ℕ) → x < 4294967296 → y < 4294967296 → bytes32 x ++ r ≡ bytes32 y ++ r' → (x ≡ y) × (r ≡ r')
word_front x y r r' p q e =
    let a : x % 256 ≡ y % 256 = cc in
    let b : x / 256 % 256 ≡ y / 256 % 256 = cc in
    let c : x / 256 / 256 % 256 ≡ y / 256 / 256 % 256 = cc in
    let d : x / 256 / 256 / 256 % 256 ≡ y / 256 / 256 / 256 % 256 = cc in
    (sym (word_back x p) ∙ (λ i. a i + b i * 256 + c i * 65536 + d i * 16777216) ∙ word_back y q, cc)

pub long-front : (x y : ℕ) (r r' : List ℕ) → x < 18446744073709551616 → y < 18446744073709551616 → bytes64 x ++ r ≡ bytes64 y ++ r' → (x ≡ y) × (r ≡ r')
long-front x y r r' p q e =
    let l = word_front (x % 4294967296) (y % 4294967296) (bytes32 (x / 4294967296) ++ r) (bytes32 (y / 4294967296) ++ r') (omega arith) (omega arith) e in
    let h = word_front (x / 4294967296) (y / 4294967296) r r' (omega arith) (omega arith) l.1 in
    (omega (arith, l.0, h.0), h.1)

pub words-front : (xs ys r r' : List ℕ) → length xs ≡ length ys → Below 4294967296 xs → Below 4294967296 ys → words xs ++ r ≡ words ys ++ r' → (xs ≡ ys) × (r ≡ r')
unfolding words Below
words-front [] [] r r' l p q e = (refl, e)
words-front [] (y ∷ ys) r r' l p q e = absurd (omega (arith, l))
words-front (x ∷ xs) [] r r' l p q e = absurd (omega (arith, l))
words-front (x ∷ xs) (y ∷ ys) r r' l p q e =
    let h = word_front x y (words xs ++ r) (words ys ++ r') p.0 q.0 e in
    let t = words-front xs ys r r' (omega (arith, l)) p.1 q.1 h.1 in
    ((λ i. h.0 i ∷ t.0 i), t.1)

-- Contents of one length, and with their length in front.
pub contents-front : (xs ys r r' : List ℕ) → length xs ≡ length ys → xs ++ r ≡ ys ++ r' → (xs ≡ ys) × (r ≡ r')
contents-front [] [] r r' l e = (refl, e)
contents-front [] (y ∷ ys) r r' l e = absurd (omega (arith, l))
contents-front (x ∷ xs) [] r r' l e = absurd (omega (arith, l))
contents-front (x ∷ xs) (y ∷ ys) r r' l e =
    let h = firsts x y (xs ++ r) (ys ++ r') e in
    let t = contents-front xs ys r r' (omega (arith, l)) (afters x y (xs ++ r) (ys ++ r') e) in
    ((λ i. h i ∷ t.0 i), t.1)

pub sized-front : (letter : ℕ) (xs ys r r' : List ℕ) → length xs < lengths → length ys < lengths → sized letter xs ++ r ≡ sized letter ys ++ r' → (xs ≡ ys) × (r ≡ r')
sized-front letter xs ys r r' p q e =
    let h = word_front (length xs) (length ys) (xs ++ r) (ys ++ r') (omega arith) (omega arith) (afters letter letter _ _ e) in
    contents-front xs ys r r' h.0 h.1

-- "Code strings are `z` if ASCII and under 256 bytes, else `u`": the letter tells which.
pub string-front : (xs ys r r' : List ℕ) → length xs < lengths → length ys < lengths → code_string xs ++ r ≡ code_string ys ++ r' → (xs ≡ ys) × (r ≡ r')
unfolding code_string
string-front xs ys r r' p q e = go (ltb (length xs) 256 && ascii xs) (ltb (length ys) 256 && ascii ys) e
  where
    go : (a b : Bool) → cond a (0x7A ∷ length xs ∷ xs) (sized 0x75 xs) ++ r ≡ cond b (0x7A ∷ length ys ∷ ys) (sized 0x75 ys) ++ r' → (xs ≡ ys) × (r ≡ r')
    go true true e = let t = afters 0x7A 0x7A _ _ e in contents-front xs ys r r' (firsts (length xs) (length ys) (xs ++ r) (ys ++ r') t) (afters (length xs) (length ys) (xs ++ r) (ys ++ r') t)
    go true false e = absurd (omega (arith, firsts 0x7A 0x75 _ _ e))
    go false true e = absurd (omega (arith, firsts 0x75 0x7A _ _ e))
    go false false e = sized-front 0x75 xs ys r r' p q e

-- Integers: in 32 bits the sign and the magnitude are told by the number ..
record Held (n : Bool) (m : ℕ) : Type 0 where
  some : n ≡ true → 0 < m
  most : m ≤ 2147483648
  less : n ≡ false → m < 2147483648

bits_tell : (n n' : Bool) (m m' : ℕ) → Held n m → Held n' m' → cond n (4294967296 - m) m ≡ cond n' (4294967296 - m') m' → (n ≡ n') × (m ≡ m')
bits_tell true true m m' h h' e = (refl, omega (arith, e, h.most, h'.most))
bits_tell true false m m' h h' e = absurd (omega (arith, e, h.most, h'.less refl))
bits_tell false true m m' h h' e = absurd (omega (arith, e, h.less refl, h'.most))
bits_tell false false m m' h h' e = (refl, e)

held_bits : (n : Bool) (m : ℕ) → Held n m → cond n (4294967296 - m) m < 4294967296
held_bits true m h = omega (arith, h.some refl)
held_bits false m h = omega (arith, h.most)

signed-front : (n n' : Bool) (m m' : ℕ) (r r' : List ℕ) → Held n m → Held n' m' → bytes32 (cond n (4294967296 - m) m) ++ r ≡ bytes32 (cond n' (4294967296 - m') m') ++ r'
    → (n ≡ n') × (m ≡ m') × (r ≡ r')
signed-front n n' m m' r r' h h' e =
    let w = word_front (cond n (4294967296 - m) m) (cond n' (4294967296 - m') m') r r' (held_bits n m h) (held_bits n' m' h') e in
    let t = bits_tell n n' m m' h h' w.0 in
    (t.0, t.1, w.1)

-- .. and of a wider one the sign and the count of digits, which are worth the magnitude
digits-front : (ds es r r' : List ℕ) → length ds ≡ length es → Digits ds → Digits es → digit_bytes ds ++ r ≡ digit_bytes es ++ r' → (ds ≡ es) × (r ≡ r')
unfolding digit_bytes
digits-front [] [] r r' l p q e = (refl, e)
digits-front [] (x ∷ es) r r' l p q e = absurd (omega (arith, l))
digits-front (d ∷ ds) [] r r' l p q e = absurd (omega (arith, l))
digits-front (d ∷ ds) (x ∷ es) r r' l p q e =
    let a : d % 256 ≡ x % 256 = cc in
    let b : d / 256 % 256 ≡ x / 256 % 256 = cc in
    let h : d ≡ x = omega (arith, a, b, p.0, q.0) in
    let t = digits-front ds es r r' (omega (arith, l)) p.1 q.1 cc in
    ((λ i. h i ∷ t.0 i), t.1)

some-digits : (ds : List ℕ) → 0 < total ds → 0 < length ds
some-digits [] h = h
some-digits (d ∷ ds) h = omega arith

long_held : (n : Bool) (m : ℕ) → 0 < m → length (digits_of m) < lengths → Held n (length (digits_of m))
long_held n m h l =
    let t = digits-total m m (omega arith) in
    record { some = λ e. some-digits (digits_of m) (omega (arith, t)); most = omega arith; less = λ e. l }

long-digits-front : (z y : Integer) (r r' : List ℕ) → 0 < z.magnitude → 0 < y.magnitude → length (digits_of z.magnitude) < lengths → length (digits_of y.magnitude) < lengths
    → long_bytes z ++ r ≡ long_bytes y ++ r' → (z ≡ y) × (r ≡ r')
long-digits-front z y r r' hz hy lz ly e =
    let m = z.magnitude in
    let k = y.magnitude in
    let s =
    signed-front z.negative y.negative (length (digits_of m)) (length (digits_of k)) (digit_bytes (digits_of m) ++ r) (digit_bytes (digits_of k) ++ r')
    (long_held z.negative m hz lz) (long_held y.negative k hy ly) (afters 0x6C 0x6C _ _ e) in
    let d = digits-front (digits_of m) (digits_of k) r r' s.1 (digits-below m m) (digits-below k k) s.2 in
    let w : m ≡ k = sym (digits-total m m (omega arith)) ∙ ap total d.0 ∙ digits-total k k (omega arith) in
    ((λ i. record { negative = s.0 i; magnitude = w i }), d.1)

pub integer-front : (z y : Integer) (r r' : List ℕ) → Signed z → Signed y → length (digits_of z.magnitude) < lengths → length (digits_of y.magnitude) < lengths
    → integer_bytes z ++ r ≡ integer_bytes y ++ r' → (z ≡ y) × (r ≡ r')
unfolding integer_bytes
integer-front z y r r' sz sy lz ly e = go (in_signed32 z) refl (in_signed32 y) refl e
  where
    short : (n : Bool) (m : ℕ) → (n ≡ true → 0 < m) → cond n (leb m 2147483648) (ltb m 2147483648) ≡ true → Held n m
    short true m s q = record { some = s; most = leb-true m 2147483648 q; less = λ f. let z : ◌≡◌ {A = ℕ} 0 1 = cc in absurd (omega arith) }
    short false m s q = record { some = s; most = omega (arith, ltb-true m 2147483648 q); less = λ f. ltb-true m 2147483648 q }

    wide : (n : Bool) (m : ℕ) → cond n (leb m 2147483648) (ltb m 2147483648) ≡ false → 0 < m
    wide true m e = omega (arith, leb-false m 2147483648 e)
    wide false m e = omega (arith, ltb-false m 2147483648 e)

    go : (a : Bool) → in_signed32 z ≡ a → (b : Bool) → in_signed32 y ≡ b
        → cond a (0x69 ∷ bytes32 (bits_of 4294967296 z)) (long_bytes z) ++ r ≡ cond b (0x69 ∷ bytes32 (bits_of 4294967296 y)) (long_bytes y) ++ r' → (z ≡ y) × (r ≡ r')
    go true p true q e =
        let s =
        signed-front z.negative y.negative z.magnitude y.magnitude r r' (short z.negative z.magnitude sz p) (short y.negative y.magnitude sy q)
        (afters 0x69 0x69 _ _ e) in
        ((λ i. record { negative = s.0 i; magnitude = s.1 i }), s.2)
    go true p false q e = absurd (omega (arith, firsts 0x69 0x6C _ _ e))
    go false p true q e = absurd (omega (arith, firsts 0x6C 0x69 _ _ e))
    go false p false q e = long-digits-front z y r r' (wide z.negative z.magnitude p) (wide y.negative y.magnitude q) lz ly e
