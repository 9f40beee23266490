-- The loops that make a word, from its last instruction to its first: what is made so far is the word of the instructions behind.
-- Assumes nothing.
use mathlib.Core.Path.{◌≡◌, refl, ◌∙◌}
use mathlib.Core.List.{List}
use Prim.Native.Nat.{ℕ, zero, suc, ◌+◌, ◌-◌, ◌*◌, ◌≤◌, ◌<◌, min}
use native.Mathlib.Omega.{arith}
use lib.Pow.{pow_mono}
use borrow.Author.Tests.{eq-eqb, ne_eqb}
use Rattle.startindex.specs.Starts.{line_of, is_start, bit}
use Rattle.startindex.specs.Index.{word_of}
use Rattle.startindex.proofs.Counts.{word_lt}

pub record Making (rs : List ℕ) (from n word i : ℕ) : Type 0 where
  pub lowest : from ≤ i
  pub highest : i ≤ from + n
  pub made : word ≡ word_of rs i (from + n - i)

pub making_none : (rs : List ℕ) (from n : ℕ) → Making rs from n 0 (from + n)
unfolding word_of
making_none rs from n =
    let z : from + n - (from + n) ≡ 0 = omega arith in
    record { lowest = omega arith; highest = omega arith; made = rw z }

-- there is room for one bit more
pub making_fits : {rs : List ℕ} {from n word i : ℕ} → Making rs from n word i → from < i → n ≤ 64 → word < 9223372036854775808
making_fits {rs} {from} {n} {word} {i} g h l =
    let size : from + n - i ≤ 63 = omega (arith, g.lowest) in
    omega (arith, g.made, word_lt rs i (from + n - i), pow_mono size)

pub making_more : {rs : List ℕ} {from n word i b : ℕ} → Making rs from n word i → from < i → b ≡ bit (is_start rs (i - 1)) → Making rs from n (word * 2 + b) (i - 1)
unfolding word_of
making_more {rs} {from} {n} {word} {i} {b} g h e =
    let s : from + n - (i - 1) ≡ suc (from + n - i) = omega (arith, g.highest) in
    let t : i - 1 + 1 ≡ i = omega arith in
    record {
      lowest = omega arith;
      highest = omega (arith, g.highest);
      made = rw (s, t) (omega (arith, g.made, e));
    }

pub making_all : {rs : List ℕ} {from n word i : ℕ} → Making rs from n word i → i ≤ from → word ≡ word_of rs from n
making_all {rs} {from} {n} {word} {i} g h =
    let a : i ≡ from = omega (arith, g.lowest) in
    let b : from + n - i ≡ n = omega (arith, a) in
    g.made ∙ rw (b, a)

-- ---- four bits, eight, and a word of 64 that is made eight at a time
pub word_of_four : (rs : List ℕ) (i : ℕ) {a b c d : ℕ} → a ≡ bit (is_start rs i) → b ≡ bit (is_start rs (i + 1)) → c ≡ bit (is_start rs (i + 2)) → d ≡ bit (is_start rs (i + 3))
    → a + 2 * b + 4 * c + 8 * d ≡ word_of rs i 4
unfolding word_of
word_of_four rs i p q r s =
    let e : i + 1 + 1 ≡ i + 2 = omega arith in
    let f : i + 2 + 1 ≡ i + 3 = omega arith in
    rw (e, f) (omega (arith, p, q, r, s))

word_four_more : (rs : List ℕ) (i n : ℕ) → word_of rs i (suc (suc (suc (suc n)))) ≡ word_of rs i 4 + 16 * word_of rs (i + 4) n
unfolding word_of
word_four_more rs i n =
    let e : i + 1 + 1 ≡ i + 2 = omega arith in
    let f : i + 2 + 1 ≡ i + 3 = omega arith in
    let g : i + 3 + 1 ≡ i + 4 = omega arith in
    rw (e, f, g) (omega arith)

pub word_of-eight : (rs : List ℕ) (i : ℕ) {low high : ℕ} → low ≡ word_of rs i 4 → high ≡ word_of rs (i + 4) 4 → low + 16 * high ≡ word_of rs i 8
word_of-eight rs i p q = omega (arith, p, q, word_four_more rs i 4)

pub record Gathering (rs : List ℕ) (from word j : ℕ) : Type 0 where
  pub most : j ≤ 8
  pub made : word ≡ word_of rs (from + 8 * j) (64 - 8 * j)

pub gathering_none : (rs : List ℕ) (from : ℕ) → Gathering rs from 0 8
unfolding word_of
gathering_none rs from = record { most = omega arith; made = refl }

-- there is room for eight bits more
pub gathering_fits : {rs : List ℕ} {from word j : ℕ} → Gathering rs from word j → 0 < j → word < 72057594037927936
gathering_fits {rs} {from} {word} {j} g h =
    let size : 64 - 8 * j ≤ 56 = omega arith in
    omega (arith, g.made, word_lt rs (from + 8 * j) (64 - 8 * j), pow_mono size)

pub gathering_more : {rs : List ℕ} {from word j eight : ℕ} → Gathering rs from word j → 0 < j → eight ≡ word_of rs (from + 8 * (j - 1)) 8 → Gathering rs from (word * 256 + eight) (j - 1)
gathering_more {rs} {from} {word} {j} {eight} g h e =
    let i = from + 8 * (j - 1) in
    let n = 64 - 8 * j in
    let s : 64 - 8 * (j - 1) ≡ suc (suc (suc (suc (suc (suc (suc (suc n))))))) = omega (arith, g.most) in
    let t : i + 4 + 4 ≡ from + 8 * j = omega arith in
    let low = word_four_more rs i (suc (suc (suc (suc n)))) in
    let high = word_four_more rs (i + 4) n in
    let own = word_four_more rs i 4 in
    record {
      most = omega (arith, g.most);
      made = rw s (omega (arith, g.made, e, low, rw t at (high), own));
    }

pub gathering_all : {rs : List ℕ} {from word j : ℕ} → Gathering rs from word j → j ≤ 0 → word ≡ word_of rs from 64
gathering_all {rs} {from} {word} {j} g h =
    let a : from + 8 * j ≡ from = omega arith in
    let b : 64 - 8 * j ≡ 64 = omega arith in
    g.made ∙ rw (a, b)

-- ---- one bit, by the two tests of the code
pub first_starts : (rs : List ℕ) (i : ℕ) → i ≡ 0 → 1 ≡ bit (is_start rs i)
unfolding is_start
first_starts rs i e = rw (eq-eqb i 0 e)

-- one that is not the first
pub behind_first : (i : ℕ) → (i ≡ 0 → ⊥) → 0 < i
behind_first zero h = absurd (h refl)
behind_first (suc i) h = omega arith

pub same_line : (rs : List ℕ) (i : ℕ) → 0 < i → line_of rs i ≡ line_of rs (i - 1) → 0 ≡ bit (is_start rs i)
unfolding is_start
same_line rs i h e = rw (ne_eqb i 0 (λ z. omega arith), eq-eqb (line_of rs i) (line_of rs (i - 1)) e)

pub other-line : (rs : List ℕ) (i : ℕ) → 0 < i → (line_of rs i ≡ line_of rs (i - 1) → ⊥) → 1 ≡ bit (is_start rs i)
unfolding is_start
other-line rs i h d = rw (ne_eqb i 0 (λ z. omega arith), ne_eqb (line_of rs i) (line_of rs (i - 1)) d)

-- ---- the word at an instruction, by the two tests of the code
pub word_past : (rs : List ℕ) (count i : ℕ) → count ≤ i → 0 ≡ word_of rs i (min 64 (count - i))
unfolding word_of
word_past rs count i h = let z : min 64 (count - i) ≡ 0 = omega arith in rw z

pub word_short : (rs : List ℕ) (count i : ℕ) {word : ℕ} → count - i < 64 → word ≡ word_of rs i (count - i) → word ≡ word_of rs i (min 64 (count - i))
word_short rs count i h e = let m : min 64 (count - i) ≡ count - i = omega arith in e ∙ rw m

pub word_full : (rs : List ℕ) (count i : ℕ) {word : ℕ} → 64 ≤ count - i → word ≡ word_of rs i 64 → word ≡ word_of rs i (min 64 (count - i))
word_full rs count i h e = let m : min 64 (count - i) ≡ 64 = omega arith in e ∙ rw m
