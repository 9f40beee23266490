-- The loops that store a block and all blocks: what is left to store still comes to the same index, and the sum is the count so far.
-- Assumes nothing.
use mathlib.Core.Path.{◌≡◌, refl, sym, ap, ◌∙◌}
use mathlib.Core.Bool.{Bool, true, false}
use mathlib.Core.List.{List}
use Prim.Native.Nat.{ℕ, zero, suc, ◌+◌, ◌-◌, ◌*◌, ◌≤◌, ◌<◌, min}
use native.Mathlib.Nat.{zero-add, add-zero}
use native.Mathlib.Omega.{arith}
use lib.ListN.{length, set, length-set, length-append}
use lib.Seq.{sets, length-sets}
use lib.Dec.{ltb}
use lib.Count.{ones}
use borrow.Author.Tests.{ltb-true, ltb-false}
use Rattle.linetable.proofs.Stores.{sets-append}
use Rattle.startindex.specs.Starts.{starts_in}
use Rattle.startindex.specs.Index.{word_of, words, block, blocks, blocks_of}
use Rattle.startindex.proofs.Counts.{starts-append, starts_le, ones_word}

pub length-words : (rs : List ℕ) (count i n : ℕ) → length (words rs count i n) ≡ n
unfolding words
length-words rs count i zero = refl
length-words rs count i (suc n) = ap suc (length-words rs count (i + 64) n)

pub length-block : (rs : List ℕ) (count b : ℕ) → length (block rs count b) ≡ 9
length-block rs count b = ap suc (length-words rs count (512 * b) 8)

-- the starts before the end of the word at i are those before it and its own
pub starts_word : (rs : List ℕ) (count i : ℕ) → starts_in rs 0 (min (i + 64) count) ≡ starts_in rs 0 (min i count) + starts_in rs i (min 64 (count - i))
unfolding starts_in
starts_word rs count i = go (ltb count i) refl where
  go : (t : Bool) → ltb count i ≡ t → starts_in rs 0 (min (i + 64) count) ≡ starts_in rs 0 (min i count) + starts_in rs i (min 64 (count - i))
  go false e =
      let h = ltb-false count i e in
      let a : min (i + 64) count ≡ i + min 64 (count - i) = omega arith in
      let b : min i count ≡ i = omega arith in
      rw (a, b) (starts-append rs i (min 64 (count - i)) 0 ∙ rw (zero-add i))
  go true e =
      let h = ltb-true count i e in
      let a : min (i + 64) count ≡ count = omega arith in
      let b : min i count ≡ count = omega arith in
      let c : min 64 (count - i) ≡ 0 = omega arith in
      rw (a, b, c) (sym (add-zero (starts_in rs 0 count)))

-- ---- the words of one block
pub record Filling (rs : List ℕ) (count b at : ℕ) (index₀ index : List ℕ) (sum i j : ℕ) : Type 0 where
  pub same : length index ≡ length index₀
  pub room : at + 9 ≤ length index
  pub some : 1 ≤ j
  pub most : j ≤ 9
  pub place : i + 64 ≡ 512 * b + 64 * j
  pub counted : sum ≡ starts_in rs 0 (min i count)
  pub comes : sets index₀ (at + 1) (words rs count (512 * b) 8) ≡ sets index (at + j) (words rs count i (9 - j))

pub filling_none : (rs : List ℕ) (count b at : ℕ) (index : List ℕ) {total : ℕ} → at + 9 ≤ length index → total ≡ starts_in rs 0 (512 * b) → 512 * b ≤ count → Filling rs count b at index index total (512 * b) 1
filling_none rs count b at index l e h =
    let m : min (512 * b) count ≡ 512 * b = omega arith in
    record { same = refl; room = l; some = omega arith; most = omega arith; place = omega arith; counted = e ∙ rw m; comes = refl }

-- the sum stays far below 64 bits
pub filling_small : {rs : List ℕ} {count b at : ℕ} {index₀ index : List ℕ} {sum i j : ℕ} → Filling rs count b at index₀ index sum i j → sum ≤ count
filling_small {rs} {count} {i = i} g = omega (arith, g.counted, starts_le rs 0 (min i count))

pub filling_more : {rs : List ℕ} {count b at : ℕ} {index₀ index : List ℕ} {sum i j word gained : ℕ} → Filling rs count b at index₀ index sum i j → j < 9
    → word ≡ word_of rs i (min 64 (count - i)) → gained ≡ ones word → Filling rs count b at index₀ (set index (at + j) word) (sum + gained) (i + 64) (j + 1)
unfolding words
filling_more {rs} {count} {b} {at} {index₀} {index} {sum} {i} {j} {word} {gained} g h e o =
    let left : 9 - j ≡ suc (9 - (j + 1)) = omega arith in
    let next : at + (j + 1) ≡ suc (at + j) = omega arith in
    let own : gained ≡ starts_in rs i (min 64 (count - i)) = o ∙ ap ones e ∙ ones_word rs i (min 64 (count - i)) in
    record {
      same = length-set index (at + j) word ∙ g.same;
      room = omega (arith, length-set index (at + j) word, g.room);
      some = omega arith;
      most = omega arith;
      place = omega (arith, g.place);
      counted = ap (λ n. n + gained) g.counted ∙ ap (λ n. starts_in rs 0 (min i count) + n) own ∙ sym (starts_word rs count i);
      comes = g.comes ∙ rw (left, next, e);
    }

pub filling_all : {rs : List ℕ} {count b at : ℕ} {index₀ index : List ℕ} {sum i j : ℕ} → Filling rs count b at index₀ index sum i j → 9 ≤ j
    → (sum ≡ starts_in rs 0 (min (512 * b + 512) count)) × (index ≡ sets index₀ (at + 1) (words rs count (512 * b) 8))
unfolding words
filling_all {rs} {count} {b} {at} {index₀} {index} {sum} {i} {j} g h =
    let left : 9 - j ≡ 0 = omega arith in
    let p : i ≡ 512 * b + 512 = omega (arith, g.place, g.most) in
    (g.counted ∙ rw p, sym (g.comes ∙ rw left))

-- ---- the blocks
pub record Laying (rs : List ℕ) (count n : ℕ) (index₀ index : List ℕ) (total b : ℕ) : Type 0 where
  pub same : length index ≡ length index₀
  pub most : b ≤ n
  pub counted : total ≡ starts_in rs 0 (min (512 * b) count)
  pub comes : sets index₀ 0 (blocks rs count 0 n) ≡ sets index (9 * b) (blocks rs count b (n - b))

pub laying_none : (rs : List ℕ) (count n : ℕ) (index : List ℕ) → Laying rs count n index index 0 0
unfolding starts_in
laying_none rs count n index =
    let z : n - 0 ≡ n = omega arith in
    let m : min 0 count ≡ 0 = omega arith in
    record { same = refl; most = omega arith; counted = rw m; comes = rw z }

-- where a block begins there is an instruction or the end
pub laying_before : (count : ℕ) {n b : ℕ} → n ≡ blocks_of count → b < n → 512 * b ≤ count
laying_before count e h = omega arith

pub laying_total : {rs : List ℕ} {count n : ℕ} {index₀ index : List ℕ} {total b : ℕ} → Laying rs count n index₀ index total b → 512 * b ≤ count → total ≡ starts_in rs 0 (512 * b)
laying_total {count = count} {b = b} g h = let m : min (512 * b) count ≡ 512 * b = omega arith in g.counted ∙ rw m

pub laying_more : {rs : List ℕ} {count n : ℕ} {index₀ index : List ℕ} {total b : ℕ} {after : List ℕ} {sum : ℕ} → Laying rs count n index₀ index total b → b < n
    → sum ≡ starts_in rs 0 (min (512 * b + 512) count) → after ≡ sets index (9 * b) (block rs count b) → Laying rs count n index₀ after sum (b + 1)
unfolding blocks
laying_more {rs} {count} {n} {index₀} {index} {total} {b} {after} {sum} g h s e =
    let left : n - b ≡ suc (n - (b + 1)) = omega arith in
    let next : 9 * b + length (block rs count b) ≡ 9 * (b + 1) = omega (arith, length-block rs count b) in
    let end : 512 * b + 512 ≡ 512 * (b + 1) = omega arith in
    record {
      same = ap length e ∙ length-sets index (9 * b) (block rs count b) ∙ g.same;
      most = omega arith;
      counted = s ∙ rw end;
      comes = g.comes ∙ rw left (sets-append index (9 * b) (block rs count b) (blocks rs count (b + 1) (n - (b + 1))) ∙ rw (next, e));
    }

pub laying_all : {rs : List ℕ} {count n : ℕ} {index₀ index : List ℕ} {total b : ℕ} → Laying rs count n index₀ index total b → n ≤ b → n ≡ blocks_of count
    → (total ≡ starts_in rs 0 count) × (index ≡ sets index₀ 0 (blocks rs count 0 n))
unfolding blocks
laying_all {rs} {count} {n} {index₀} {index} {total} {b} g h e =
    let left : n - b ≡ 0 = omega arith in
    let m : min (512 * b) count ≡ count = omega (arith, g.most) in
    (g.counted ∙ rw m, sym (g.comes ∙ rw left))

-- the running total and the words behind it are the block
pub block-stored : (rs : List ℕ) (count b : ℕ) (before : List ℕ) {total : ℕ} {after : List ℕ} → total ≡ starts_in rs 0 (512 * b)
    → after ≡ sets (set before (9 * b) total) (9 * b + 1) (words rs count (512 * b) 8) → after ≡ sets before (9 * b) (block rs count b)
block-stored rs count b before e s = let n : 9 * b + 1 ≡ suc (9 * b) = omega arith in s ∙ rw (e, n)

pub length-blocks : (rs : List ℕ) (count b n : ℕ) → length (blocks rs count b n) ≡ 9 * n
unfolding blocks
length-blocks rs count b zero = refl
length-blocks rs count b (suc n) =
    length-append (block rs count b) (blocks rs count (b + 1) n) ∙ omega (arith, length-block rs count b, length-blocks rs count (b + 1) n)
