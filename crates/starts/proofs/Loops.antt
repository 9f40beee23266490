-- The four loops of the questions: a sum of ones, the bisection, a word's bits and a block's words. Each invariant says that what is left still
-- comes to the same answer. Assumes nothing.
use Rattle.std.proofs.Common.{◌≡◌, ℕ, zero, suc, ◌+◌, ◌-◌, ◌*◌, ◌/◌, ◌%◌, ◌<◌, ◌≤◌, cond, eqb, ltb, leb, List, get_or, sym, refl, ap, ◌∙◌, add-zero, zero-add, arith, le-ltb, lt-ltb, eq-eqb, ne_eqb, le-leb}
use lib.Count.{ones}
use borrow.Author.Tests.{lt-leb}
use Rattle.std.specs.Prelude.{None, Some}
use Rattle.starts.specs.Questions.{total_of, ones_of, bisect, block_with, kth_bit, kth_of}

-- ---- the ones of some words
pub record Summing (index : List ℕ) (from n sum j : ℕ) : Type 0 where
  pub most : j ≤ n
  pub small : sum ≤ 64 * j
  pub comes : ones_of index from n ≡ sum + ones_of index (from + j) (n - j)

pub summing_none : (index : List ℕ) (from n : ℕ) → Summing index from n 0 0
summing_none index from n =
    let a : from + 0 ≡ from = omega arith in
    let b : n - 0 ≡ n = omega arith in
    record { most = omega arith; small = omega arith; comes = rw (a, b) (sym (zero-add (ones_of index from n))) }

pub summing_more : {index : List ℕ} {from n sum j own : ℕ} → Summing index from n sum j → j < n → own ≡ ones (get_or index (from + j) 0) → own ≤ 64 → Summing index from n (sum + own) (j + 1)
unfolding ones_of
summing_more {index} {from} {n} {sum} {j} {own} g h e l =
    let a : n - j ≡ suc (n - (j + 1)) = omega arith in
    let b : from + (j + 1) ≡ from + j + 1 = omega arith in
    let c : ones_of index from n ≡ sum + (ones (get_or index (from + j) 0) + ones_of index (from + j + 1) (n - (j + 1))) = g.comes ∙ rw a in
    record { most = omega arith; small = omega (arith, g.small); comes = rw b (omega (arith, c, e)) }

pub summing_all : {index : List ℕ} {from n sum j : ℕ} → Summing index from n sum j → n ≤ j → n < 8 → (sum ≡ ones_of index from n) × (sum ≤ 448)
unfolding ones_of
summing_all {index} {from} {n} {sum} {j} g h k =
    let a : n - j ≡ 0 = omega arith in
    (sym (g.comes ∙ rw (a, add-zero sum)), omega (arith, g.small, g.most))

-- ---- the bisection; `turns` are enough
pub record Seeking (index : List ℕ) (blocks k low high : ℕ) : Type 0 where
  pub turns : ℕ
  pub some : low < high
  pub most : high ≤ blocks
  pub enough : high - low ≤ turns
  pub comes : block_with index blocks k ≡ bisect turns index k low high

pub seeking_none : (index : List ℕ) (blocks k : ℕ) → 0 < blocks → Seeking index blocks k 0 blocks
seeking_none index blocks k h = record { turns = blocks; some = h; most = omega arith; enough = omega arith; comes = refl }

-- a turn that there is
turn : (index : List ℕ) (k low high turns : ℕ) → 1 < high - low → high - low ≤ turns → (fewer : ℕ) × (turns ≡ suc fewer) × (bisect turns index k low high
    ≡ cond (ltb (total_of index (low + (high - low) / 2)) k) (bisect fewer index k (low + (high - low) / 2) high) (bisect fewer index k low (low + (high - low) / 2)))
unfolding bisect
turn index k low high zero h l = absurd (omega arith)
turn index k low high (suc fewer) h l = (fewer, refl, rw (lt-ltb 1 (high - low) h))

pub seeking_up : {index : List ℕ} {blocks k low high : ℕ} → Seeking index blocks k low high → 1 < high - low → total_of index (low + (high - low) / 2) < k
    → Seeking index blocks k (low + (high - low) / 2) high
seeking_up {index} {blocks} {k} {low} {high} g h t =
    let s = turn index k low high g.turns h g.enough in
    record {
      turns = s.0;
      some = omega (arith, g.some);
      most = g.most;
      enough = omega (arith, g.enough, s.1);
      comes = g.comes ∙ s.2 ∙ rw (lt-ltb (total_of index (low + (high - low) / 2)) k t);
    }

pub seeking_down : {index : List ℕ} {blocks k low high : ℕ} → Seeking index blocks k low high → 1 < high - low → k ≤ total_of index (low + (high - low) / 2)
    → Seeking index blocks k low (low + (high - low) / 2)
seeking_down {index} {blocks} {k} {low} {high} g h t =
    let s = turn index k low high g.turns h g.enough in
    record {
      turns = s.0;
      some = omega arith;
      most = omega (arith, g.most, g.some);
      enough = omega (arith, g.enough, s.1);
      comes = g.comes ∙ s.2 ∙ rw (le-ltb (total_of index (low + (high - low) / 2)) k t);
    }

rest : (index : List ℕ) (k low high turns : ℕ) → high - low ≤ 1 → bisect turns index k low high ≡ low
unfolding bisect
rest index k low high zero h = refl
rest index k low high (suc turns) h = rw (le-ltb 1 (high - low) h)

pub seeking_all : {index : List ℕ} {blocks k low high : ℕ} → Seeking index blocks k low high → high - low ≤ 1 → (low ≡ block_with index blocks k) × (low < blocks)
seeking_all {index} {blocks} {k} {low} {high} g h =
    (sym (g.comes ∙ rest index k low high g.turns h), omega (arith, g.some, g.most))

-- ---- the bits of a word
pub record Counting (word k rest left i : ℕ) : Type 0 where
  pub positive : 0 < left
  pub most : i ≤ 64
  pub comes : kth_bit 64 word k ≡ i + kth_bit (64 - i) rest left

pub counting_none : (word k : ℕ) → 0 < k → Counting word k word k 0
counting_none word k h = record { positive = h; most = omega arith; comes = sym (zero-add (kth_bit 64 word k)) }

look : {word k rest left i : ℕ} → Counting word k rest left i → i < 64 → kth_bit 64 word k ≡ i + cond (eqb (left - rest % 2) 0) 0 (suc (kth_bit (64 - (i + 1)) (rest / 2) (left - rest % 2)))
unfolding kth_bit
look {word} {k} {rest} {left} {i} g h = let a : 64 - i ≡ suc (64 - (i + 1)) = omega arith in g.comes ∙ rw a

pub counting_more : {word k rest left i : ℕ} → Counting word k rest left i → i < 64 → (left - rest % 2 ≡ 0 → ⊥) → Counting word k (rest / 2) (left - rest % 2) (i + 1)
counting_more {word} {k} {rest} {left} {i} g h n =
    let s = rw (ne_eqb (left - rest % 2) 0 n) at (look g h) in
    record { positive = pos (left - rest % 2) n; most = omega arith; comes = omega (arith, s) } where
      pos : (m : ℕ) → (m ≡ 0 → ⊥) → 0 < m
      pos zero z = absurd (z refl)
      pos (suc m) z = omega arith

pub counting-found : {word k rest left i : ℕ} → Counting word k rest left i → i < 64 → left - rest % 2 ≡ 0 → (i ≡ kth_bit 64 word k) × (i ≤ 64)
counting-found {word} {k} {rest} {left} {i} g h z =
    let s = rw (eq-eqb (left - rest % 2) 0 z, add-zero i) at (look g h) in
    (sym s, omega arith)

pub counting_all : {word k rest left i : ℕ} → Counting word k rest left i → 64 ≤ i → (64 ≡ kth_bit 64 word k) × (64 ≤ 64)
unfolding kth_bit
counting_all {word} {k} {rest} {left} {i} g h =
    let a : 64 - i ≡ 0 = omega arith in
    let b : i ≡ 64 = omega (arith, g.most) in
    (sym (g.comes ∙ rw (a, b)), omega arith)

-- ---- the words of a block
pub record Searching (index : List ℕ) (from first k left i j : ℕ) : Type 0 where
  pub positive : 0 < left
  pub most : j ≤ 8
  pub place : i ≡ first + 64 * j
  pub comes : kth_of index from 8 first k ≡ kth_of index (from + j) (8 - j) i left

pub searching_none : (index : List ℕ) (from first k : ℕ) → 0 < k → Searching index from first k k first 0
searching_none index from first k h = record { positive = h; most = omega arith; place = omega arith; comes = rw (add-zero from) }

seen : {index : List ℕ} {from first k left i j : ℕ} → Searching index from first k left i j → j < 8 → kth_of index from 8 first k
    ≡ cond (leb left (ones (get_or index (from + j) 0))) (Some (i + kth_bit 64 (get_or index (from + j) 0) left)) (kth_of index (from + j + 1) (8 - (j + 1)) (i + 64) (left - ones (get_or index (from + j) 0)))
unfolding kth_of
seen {j = j} g h = let a : 8 - j ≡ suc (8 - (j + 1)) = omega arith in g.comes ∙ rw a

pub searching_more : {index : List ℕ} {from first k left i j own : ℕ} → Searching index from first k left i j → j < 8 → own ≡ ones (get_or index (from + j) 0) → own < left
    → Searching index from first k (left - own) (i + 64) (j + 1)
searching_more {index} {from} {first} {k} {left} {i} {j} {own} g h e l =
    let above : ones (get_or index (from + j) 0) < left = omega (arith, e) in
    let s = rw (lt-leb left (ones (get_or index (from + j) 0)) above) at (seen g h) in
    let b : from + (j + 1) ≡ from + j + 1 = omega arith in
    record { positive = omega arith; most = omega arith; place = omega (arith, g.place); comes = rw (b, e) s }

pub searching_found : {index : List ℕ} {from first k left i j own bit : ℕ} → Searching index from first k left i j → j < 8 → own ≡ ones (get_or index (from + j) 0) → left ≤ own
    → bit ≡ kth_bit 64 (get_or index (from + j) 0) left → Some (i + bit) ≡ kth_of index from 8 first k
searching_found {index} {from} {first} {k} {left} {i} {j} {own} {bit} g h e l b =
    let below : left ≤ ones (get_or index (from + j) 0) = omega (arith, e) in
    let s = rw (le-leb left (ones (get_or index (from + j) 0)) below) at (seen g h) in
    ap (λ n. Some (i + n)) b ∙ sym s

pub searching_all : {index : List ℕ} {from first k left i j : ℕ} → Searching index from first k left i j → 8 ≤ j → None ≡ kth_of index from 8 first k
unfolding kth_of
searching_all {j = j} g h = let a : 8 - j ≡ 0 = omega arith in sym (g.comes ∙ rw a)
