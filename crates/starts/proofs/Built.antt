-- The words of an index that was built, and the first question of it: the sum is the count over the records. Assumes nothing.
use Rattle.std.proofs.Common.{◌≡◌, ℕ, zero, suc, ◌+◌, ◌-◌, ◌*◌, ◌/◌, ◌%◌, ◌^◌, ◌<◌, ◌≤◌, min, List, ◌++◌, length, get_or, sym, refl, ap, ◌∙◌, lt_of_lt_of_le, add-zero, mod-eq_of_lt, pow-suc, zero-add, arith, lit≤, get_or-append-add, pow_pos}
use native.Mathlib.Nat.{mod-one}
use lib.ListN.{get_or-append}
use lib.Arith.{mod-mul}
use lib.Count.{ones}
use Rattle.clearing.specs.Lent.{zeros, padded}
use Rattle.startindex.specs.Starts.{starts_in}
use Rattle.startindex.specs.Index.{word_of, words, block, blocks, blocks_of, need, built}
use Rattle.startindex.proofs.Counts.{starts-append, starts_le, ones_word, word_low, word_rest}
use Rattle.startindex.proofs.Blocks.{length-block, length-blocks}
use Rattle.starts.specs.Questions.{total_of, first_word, ones_of, before}
use Rattle.starts.specs.Promised.{index_of}

-- ---- the words, by their places
word_cell : (rs : List ℕ) (count i n j : ℕ) → j < n → get_or (words rs count i n) j 0 ≡ word_of rs (i + 64 * j) (min 64 (count - (i + 64 * j)))
unfolding words
word_cell rs count i zero j h = absurd (omega arith)
word_cell rs count i (suc n) zero h = let e : i + 64 * 0 ≡ i = omega arith in rw e
word_cell rs count i (suc n) (suc j) h =
    let e : i + 64 * suc j ≡ i + 64 + 64 * j = omega arith in
    rw e (word_cell rs count (i + 64) n j (omega arith))

block_cell : (rs : List ℕ) (count b n k j : ℕ) → k < n → j < 9 → get_or (blocks rs count b n) (9 * k + j) 0 ≡ get_or (block rs count (b + k)) j 0
unfolding blocks
block_cell rs count b zero k j h l = absurd (omega arith)
block_cell rs count b (suc n) zero j h l =
    let e : 9 * 0 + j ≡ j = omega arith in
    ap (λ (t : ℕ). get_or (block rs count b ++ blocks rs count (b + 1) n) t 0) e
    ∙ get_or-append (block rs count b) (blocks rs count (b + 1) n) 0 j (omega (arith, length-block rs count b))
    ∙ ap (λ (t : ℕ). get_or (block rs count t) j 0) (sym (add-zero b))
block_cell rs count b (suc n) (suc k) j h l =
    let e : 9 * suc k + j ≡ length (block rs count b) + (9 * k + j) = omega (arith, length-block rs count b) in
    let f : b + suc k ≡ b + 1 + k = omega arith in
    ap (λ (t : ℕ). get_or (block rs count b ++ blocks rs count (b + 1) n) t 0) e
    ∙ get_or-append-add (block rs count b) (blocks rs count (b + 1) n) (9 * k + j) 0
    ∙ block_cell rs count (b + 1) n k j (omega arith) l
    ∙ ap (λ (t : ℕ). get_or (block rs count t) j 0) (sym f)

cell : (rs : List ℕ) (count room b j : ℕ) → need count ≤ room → b < blocks_of count → j < 9 → get_or (index_of rs count room) (9 * b + j) 0 ≡ get_or (block rs count b) j 0
unfolding padded built
cell rs count room b j r h l =
    let inside : 9 * b + j < length (built rs count) = omega (arith, length-blocks rs count 0 (blocks_of count)) in
    get_or-append (built rs count) (zeros (room - length (built rs count))) 0 (9 * b + j) inside
    ∙ block_cell rs count 0 (blocks_of count) b j h l ∙ ap (λ (t : ℕ). get_or (block rs count t) j 0) (zero-add b)

pub total_cell : (rs : List ℕ) (count room b : ℕ) → need count ≤ room → b < blocks_of count → total_of (index_of rs count room) b ≡ starts_in rs 0 (512 * b)
total_cell rs count room b r h = let e : 9 * b + 0 ≡ 9 * b = omega arith in rw e at (cell rs count room b 0 r h (omega arith))

pub bits_cell : (rs : List ℕ) (count room b w : ℕ) → need count ≤ room → b < blocks_of count → w < 8
    → get_or (index_of rs count room) (first_word b + w) 0 ≡ word_of rs (512 * b + 64 * w) (min 64 (count - (512 * b + 64 * w)))
bits_cell rs count room b w r h l =
    let e : first_word b + w ≡ 9 * b + suc w = omega arith in
    rw e (cell rs count room b (suc w) r h (omega arith) ∙ word_cell rs count (512 * b) 8 w l)

-- ---- the sum
-- the low bits of a word are the word of its first instructions
pub word_mod : (rs : List ℕ) (i m r : ℕ) → r ≤ m → word_of rs i m % 2 ^ r ≡ word_of rs i r
unfolding word_of
word_mod rs i m zero h = mod-one (word_of rs i m)
word_mod rs i zero (suc r) h = absurd (omega arith)
word_mod rs i (suc m) (suc r) h =
    rw (pow-suc 2 r) (mod-mul (word_of rs i (suc m)) {m = 2 ^ r} {c = 2} (pow_pos r) (omega arith)
    ∙ rw (word_low rs i m, word_rest rs i m, word_mod rs (i + 1) m r (omega arith)) (omega arith))

whole_words : (rs : List ℕ) (count room b m w : ℕ) → need count ≤ room → b < blocks_of count → w + m ≤ 8 → 512 * b + 64 * (w + m) ≤ count
    → ones_of (index_of rs count room) (first_word b + w) m ≡ starts_in rs (512 * b + 64 * w) (64 * m)
unfolding ones_of starts_in
whole_words rs count room b zero w r h l u = refl
whole_words rs count room b (suc m) w r h l u =
    let size : min 64 (count - (512 * b + 64 * w)) ≡ 64 = omega arith in
    let next : first_word b + w + 1 ≡ first_word b + (w + 1) = omega arith in
    let after : 512 * b + 64 * w + 64 ≡ 512 * b + 64 * (w + 1) = omega arith in
    let all : 64 * suc m ≡ 64 + 64 * m = omega arith in
    let own : ones (get_or (index_of rs count room) (first_word b + w) 0) ≡ starts_in rs (512 * b + 64 * w) 64 =
    rw (bits_cell rs count room b w r h (omega arith), size) (ones_word rs (512 * b + 64 * w) 64) in
    rw (own, next, whole_words rs count room b m (w + 1) r h (omega arith) (omega arith), all)
    (sym (starts-append rs 64 (64 * m) (512 * b + 64 * w) ∙ rw after))

-- "The first answers by adding the ones in the 64-bit words after the running total": it is the count over the records
pub before-counts : (rs : List ℕ) (count room n : ℕ) → need count ≤ room → count < 4294967296 → n ≤ count → before (index_of rs count room) n ≡ starts_in rs 0 n
unfolding before
before-counts rs count room n r c h =
    let b = n / 512 in
    let w = n % 512 / 64 in
    let place : 512 * b + 64 * w + n % 64 ≡ n = omega arith in
    let there : b < blocks_of count = omega arith in
    let size : n % 64 ≤ min 64 (count - (512 * b + 64 * w)) = omega arith in
    let total : total_of (index_of rs count room) b ≡ starts_in rs 0 (512 * b) = total_cell rs count room b r there in
    let first : first_word b + 0 ≡ first_word b = omega arith in
    let start : 512 * b + 64 * 0 ≡ 512 * b = omega arith in
    let whole : ones_of (index_of rs count room) (first_word b) w ≡ starts_in rs (512 * b) (64 * w) =
    rw (first, start) at (whole_words rs count room b w 0 r there (omega arith) (omega arith)) in
    let last : ones (get_or (index_of rs count room) (first_word b + w) 0 % 2 ^ (n % 64)) ≡ starts_in rs (512 * b + 64 * w) (n % 64) =
    ap (λ (x : ℕ). ones (x % 2 ^ (n % 64))) (bits_cell rs count room b w r there (omega arith))
    ∙ ap ones (word_mod rs (512 * b + 64 * w) (min 64 (count - (512 * b + 64 * w))) (n % 64) size) ∙ ones_word rs (512 * b + 64 * w) (n % 64) in
    let upto : starts_in rs 0 (512 * b + 64 * w) ≡ starts_in rs 0 (512 * b) + starts_in rs (512 * b) (64 * w) =
    starts-append rs (512 * b) (64 * w) 0 ∙ rw (zero-add (512 * b)) in
    let all : starts_in rs 0 n ≡ starts_in rs 0 (512 * b + 64 * w) + starts_in rs (512 * b + 64 * w) (n % 64) =
    ap (starts_in rs 0) (sym place) ∙ starts-append rs (512 * b + 64 * w) (n % 64) 0 ∙ rw (zero-add (512 * b + 64 * w)) in
    let sum : starts_in rs 0 (512 * b) + (starts_in rs (512 * b) (64 * w) + starts_in rs (512 * b + 64 * w) (n % 64)) ≡ starts_in rs 0 n = omega (arith, upto, all) in
    rw (total, whole, last, sum) (mod-eq_of_lt (lt_of_lt_of_le (below (starts_in rs 0 n) (starts_le rs 0 n)) (lit≤ tt))) where
      below : (s : ℕ) → s ≤ n → s < 4294967296
      below s l = omega arith
