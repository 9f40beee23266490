-- The written bytes, one at a time: little-endian from the front, big-endian from the back.
-- Assumes nothing.
use Rattle.std.proofs.Common.{◌≡◌, ℕ, zero, suc, ◌+◌, ◌/◌, ◌%◌, ◌<◌, ◌≤◌, Bool, true, false, cond, eqb, ltb, List, [], ◌∷◌, ◌++◌, map, reverse, length, get_or, refl, ap, ◌∙◌, append_assoc, arith, ltb-false, ltb-true, ne_eqb}
use mathlib.Core.List.{reverse-cons, map-append}
use lib.ListN.{length-reverse}
use Rattle.varint.specs.Writing.{groups, chained, little_endian, big_endian, started, big_endian_with_start}
use Rattle.varint.proofs.Groups.{groups_last, groups_more, size}

-- a group before others has 0x40
chained_more : (g n : ℕ) → chained (g ∷ groups n) ≡ (0x40 + g) ∷ chained (groups n)
unfolding chained
chained_more g n = go (ltb n 64) refl
  where
    go : (t : Bool) → ltb n 64 ≡ t → chained (g ∷ groups n) ≡ (0x40 + g) ∷ chained (groups n)
    go true e = rw (groups_last n (ltb-true n 64 e))
    go false e = rw (groups_more n (ltb-false n 64 e))

pub little_last : (n : ℕ) → n < 64 → little_endian n ≡ n ∷ []
unfolding little_endian chained
little_last n h = rw (groups_last n h)

pub little_more : (n : ℕ) → 64 ≤ n → little_endian n ≡ (0x40 + n % 64) ∷ little_endian (n / 64)
unfolding little_endian
little_more n h = ap chained (groups_more n h) ∙ chained_more (n % 64) (n / 64)

-- every group but the last has 0x40
chained-snoc : (front : List ℕ) (g : ℕ) → chained (front ++ g ∷ []) ≡ map (λ (x : ℕ). 0x40 + x) front ++ g ∷ []
unfolding chained
chained-snoc [] g = refl
chained-snoc (x ∷ []) g = refl
chained-snoc (x ∷ y ∷ front) g = ap (λ (l : List ℕ). (0x40 + x) ∷ l) (chained-snoc (y ∷ front) g)

-- The bytes of the groups above the last, the highest first: none for zero.
unfoldable pub ahead : ℕ → List ℕ
ahead n = cond (eqb n 0) [] (map (λ (x : ℕ). 0x40 + x) (reverse (groups n)))

pub ahead_none : ahead 0 ≡ []
unfolding ahead
ahead_none = refl

-- the last of them: a group with 0x40
pub ahead_more : (n : ℕ) → 0 < n → ahead n ≡ ahead (n / 64) ++ (0x40 + n % 64) ∷ []
unfolding ahead
ahead_more n h = rw (ne_eqb n 0 (λ e. omega arith)) (go (ltb n 64) refl)
  where
    go : (t : Bool) → ltb n 64 ≡ t
        → map (λ (x : ℕ). 0x40 + x) (reverse (groups n)) ≡ ahead (n / 64) ++ (0x40 + n % 64) ∷ []
    go true e =
        let h = ltb-true n 64 e in
        let q : n / 64 ≡ 0 = omega arith in
        let r : n % 64 ≡ n = omega arith in
        rw (groups_last n h, q, r)
    go false e =
        let h = ltb-false n 64 e in
        rw (groups_more n h, ne_eqb (n / 64) 0 (λ e. omega arith), reverse-cons, map-append)

-- the last byte of a number, after those with 0x40
pub big_last : (n : ℕ) → big_endian n ≡ ahead (n / 64) ++ n % 64 ∷ []
unfolding big_endian ahead chained
big_last n = go (ltb n 64) refl
  where
    go : (t : Bool) → ltb n 64 ≡ t → big_endian n ≡ ahead (n / 64) ++ n % 64 ∷ []
    go true e =
        let h = ltb-true n 64 e in
        let q : n / 64 ≡ 0 = omega arith in
        let r : n % 64 ≡ n = omega arith in
        rw (groups_last n h, q, r)
    go false e =
        let h = ltb-false n 64 e in
        rw (groups_more n h, ne_eqb (n / 64) 0 (λ e. omega arith), reverse-cons, chained-snoc)

-- the first byte has no 0x80
first_ahead : (f n : ℕ) (rest : List ℕ) → n ≤ f → get_or rest 0 0 < 0x80 → get_or (ahead n ++ rest) 0 0 < 0x80
first_ahead zero n rest k h =
    let e : n ≡ 0 = omega arith in
    rw (e, ahead_none) h
first_ahead (suc f) n rest k h =
    go (ltb 0 n) refl (first_ahead f (n / 64) ((0x40 + n % 64) ∷ rest) (omega arith) (omega arith))
  where
    go : (t : Bool) → ltb 0 n ≡ t → get_or (ahead (n / 64) ++ (0x40 + n % 64) ∷ rest) 0 0 < 0x80 → get_or (ahead n ++ rest) 0 0 < 0x80
    go true e i = rw (ahead_more n (ltb-true 0 n e), append_assoc) i
    go false e i =
        let z : n ≡ 0 = omega (arith, ltb-false 0 n e) in
        rw (z, ahead_none) h

pub first_big : (n : ℕ) → get_or (big_endian n) 0 0 < 0x80
first_big n = rw (big_last n) (first_ahead n (n / 64) (n % 64 ∷ []) (omega arith) (omega arith))

-- every order takes as many bytes as there are groups
length-chained : (gs : List ℕ) → length (chained gs) ≡ length gs
unfolding chained
length-chained [] = refl
length-chained (g ∷ []) = refl
length-chained (g ∷ h ∷ gs) = ap suc (length-chained (h ∷ gs))

pub length-started : (bytes : List ℕ) → length (started bytes) ≡ length bytes
unfolding started
length-started [] = refl
length-started (b ∷ bytes) = refl

pub length_little : (n : ℕ) → length (little_endian n) ≡ size n
unfolding little_endian
length_little n = length-chained (groups n)

pub length_big : (n : ℕ) → length (big_endian n) ≡ size n
unfolding big_endian
length_big n = length-chained (reverse (groups n)) ∙ length-reverse (groups n)

pub length_big_with_start : (n : ℕ) → length (big_endian_with_start n) ≡ size n
unfolding big_endian_with_start
length_big_with_start n = length-started (big_endian n) ∙ length_big n
