-- Laws of the count over the records and of a word of their bits: counts of neighbours add up, and a word's ones are its count.
-- Assumes nothing.
use mathlib.Core.Path.{◌≡◌, refl, ◌∙◌}
use mathlib.Core.Bool.{Bool, true, false}
use mathlib.Core.List.{List}
use Prim.Native.Nat.{ℕ, zero, suc, ◌+◌, ◌/◌, ◌%◌, ◌^◌, ◌≤◌, ◌<◌}
use native.Mathlib.Nat.{add-zero, zero-add, pow-suc}
use native.Mathlib.Omega.{arith}
use lib.Count.{ones, ones_step}
use Rattle.startindex.specs.Starts.{is_start, bit, starts_in}
use Rattle.startindex.specs.Index.{word_of}

pub bit_le : (b : Bool) → bit b ≤ 1
bit_le true = omega arith
bit_le false = omega arith

-- ---- counts

pub starts-append : (rs : List ℕ) (a b i : ℕ) → starts_in rs i (a + b) ≡ starts_in rs i a + starts_in rs (i + a) b
unfolding starts_in
starts-append rs zero b i = rw (zero-add b, add-zero i, zero-add (starts_in rs i b))
starts-append rs (suc a) b i =
    let e : suc a + b ≡ suc (a + b) = omega arith in
    let f : i + suc a ≡ i + 1 + a = omega arith in
    rw (e, f) (let ih = starts-append rs a b (i + 1) in omega (arith, ih))

pub starts_le : (rs : List ℕ) (i n : ℕ) → starts_in rs i n ≤ n
unfolding starts_in
starts_le rs i zero = omega arith
starts_le rs i (suc n) = omega (arith, starts_le rs (i + 1) n, bit_le (is_start rs i))

-- ---- a word of bits

pub word_low : (rs : List ℕ) (i n : ℕ) → word_of rs i (suc n) % 2 ≡ bit (is_start rs i)
unfolding word_of
word_low rs i n = omega (arith, bit_le (is_start rs i))

pub word_rest : (rs : List ℕ) (i n : ℕ) → word_of rs i (suc n) / 2 ≡ word_of rs (i + 1) n
unfolding word_of
word_rest rs i n = omega (arith, bit_le (is_start rs i))

pub word_lt : (rs : List ℕ) (i n : ℕ) → word_of rs i n < 2 ^ n
unfolding word_of
word_lt rs i zero = omega arith
word_lt rs i (suc n) = rw (pow-suc 2 n) (omega (arith, word_lt rs (i + 1) n, bit_le (is_start rs i)))

-- "adding the ones": a word's are the starts among its instructions
pub ones_word : (rs : List ℕ) (i n : ℕ) → ones (word_of rs i n) ≡ starts_in rs i n
unfolding word_of starts_in ones
ones_word rs i zero = refl
ones_word rs i (suc n) =
    ones_step (word_of rs i (suc n)) ∙ rw (word_low rs i n, word_rest rs i n, ones_word rs (i + 1) n)
