-- The second question of an index that was built: the bisection and one block find the k-th start of the records. Assumes nothing.
use Rattle.std.proofs.Common.{◌≡◌, ℕ, zero, suc, ◌+◌, ◌-◌, ◌*◌, ◌/◌, ◌<◌, ◌≤◌, min, Bool, true, false, cond, ltb, leb, ◌⊎◌, List, get_or, sym, refl, ap, ◌∙◌, inl, inr, zero-add, arith, ltb-false, ltb-true, le-ltb, lt-ltb, leb-false, leb-true}
use Rattle.std.specs.Prelude.{Option, None, Some}
use lib.Count.{ones}
use Rattle.startindex.specs.Starts.{starts_in, kth_start}
use Rattle.startindex.specs.Index.{word_of, blocks_of, need}
use Rattle.startindex.proofs.Counts.{starts-append, ones_word}
use Rattle.starts.specs.Questions.{total_of, first_word, bisect, block_with, kth_bit, kth_of, in_count, kth}
use Rattle.starts.specs.Promised.{index_of}
use Rattle.starts.proofs.Built.{total_cell, bits_cell}
use Rattle.starts.proofs.Kth.{kth_zero, kth_empty, kth-within, kth-behind, kth-inverts, bit_found}

-- ---- the words of a block

-- behind a word that the records end in there is nothing, wherever one looks for it
past : (rs : List ℕ) (count i n k : ℕ) → kth_start rs (i + min 64 (count - i)) (min (64 * n) (count - (i + 64))) k ≡ kth_start rs (i + 64) (min (64 * n) (count - (i + 64))) k
past rs count i n k = go (leb 64 (count - i)) refl where
  go : (t : Bool) → leb 64 (count - i) ≡ t
      → kth_start rs (i + min 64 (count - i)) (min (64 * n) (count - (i + 64))) k ≡ kth_start rs (i + 64) (min (64 * n) (count - (i + 64))) k
  go true e =
      let h = leb-true 64 (count - i) e in
      let m : min 64 (count - i) ≡ 64 = omega arith in
      rw m
  go false e =
      let h = leb-false 64 (count - i) e in
      let z : min (64 * n) (count - (i + 64)) ≡ 0 = omega arith in
      ap (λ (m : ℕ). kth_start rs (i + min 64 (count - i)) m k) z ∙ kth_empty rs (i + min 64 (count - i)) k ∙ sym (kth_empty rs (i + 64) k)
      ∙ ap (λ (m : ℕ). kth_start rs (i + 64) m k) (sym z)

-- one word, and `on` behind it
one_word : (rs : List ℕ) (count i n k word : ℕ) (on : Option ℕ) → 0 < k → word ≡ word_of rs i (min 64 (count - i))
    → (starts_in rs i (min 64 (count - i)) < k → on ≡ (kth_start rs (i + 64) (min (64 * n) (count - (i + 64))) (k - starts_in rs i (min 64 (count - i)))))
    → cond (leb k (ones word)) (Some (i + kth_bit 64 word k)) on ≡ (kth_start rs i (min (64 * suc n) (count - i)) k)
one_word rs count i n k word on p e ih = go (leb k (starts_in rs i m)) refl where
  m : ℕ
  m = min 64 (count - i)

  rest : ℕ
  rest = min (64 * n) (count - (i + 64))

  own : ones word ≡ starts_in rs i m
  own = ap ones e ∙ ones_word rs i m

  split : min (64 * suc n) (count - i) ≡ m + rest
  split = omega arith

  go : (t : Bool) → leb k (starts_in rs i m) ≡ t → cond (leb k (ones word)) (Some (i + kth_bit 64 word k)) on ≡ (kth_start rs i (min (64 * suc n) (count - i)) k)
  go true t =
      let h = leb-true k (starts_in rs i m) t in
      ap (λ (x : ℕ). cond (leb k x) (Some (i + kth_bit 64 word k)) on) own
      ∙ ap (λ (b : Bool). cond b (Some (i + kth_bit 64 word k)) on) t
      ∙ ap (λ (x : ℕ). Some (i + kth_bit 64 x k)) e
      ∙ sym ((ap (λ (x : ℕ). kth_start rs i x k) split ∙ kth-within rs m rest i k p h ∙ bit_found rs 64 i m k (omega arith) p h))
  go false t =
      let h = leb-false k (starts_in rs i m) t in
      ap (λ (x : ℕ). cond (leb k x) (Some (i + kth_bit 64 word k)) on) own
      ∙ ap (λ (b : Bool). cond b (Some (i + kth_bit 64 word k)) on) t
      ∙ ih h
      ∙ sym ((ap (λ (x : ℕ). kth_start rs i x k) split ∙ kth-behind rs m rest i k h ∙ past rs count i n (k - starts_in rs i m)))

words-found : (rs : List ℕ) (count room b n w k : ℕ) → need count ≤ room → b < blocks_of count → w + n ≡ 8 → 0 < k
    → kth_of (index_of rs count room) (first_word b + w) n (512 * b + 64 * w) k ≡ (kth_start rs (512 * b + 64 * w) (min (64 * n) (count - (512 * b + 64 * w))) k)
unfolding kth_of
words-found rs count room b zero w k r h l p =
    let z : min (64 * 0) (count - (512 * b + 64 * w)) ≡ 0 = omega arith in
    sym ((ap (λ (m : ℕ). kth_start rs (512 * b + 64 * w) m k) z ∙ kth_empty rs (512 * b + 64 * w) k))
words-found rs count room b (suc n) w k r h l p =
    one_word rs count (512 * b + 64 * w) n k word on p e
    (λ q. next ∙ words-found rs count room b n (w + 1) (k - ones word) r h (omega arith) (omega (arith, own)) ∙ same) where
      word : ℕ
      word = get_or (index_of rs count room) (first_word b + w) 0

      e : word ≡ word_of rs (512 * b + 64 * w) (min 64 (count - (512 * b + 64 * w)))
      e = bits_cell rs count room b w r h (omega arith)

      own : ones word ≡ starts_in rs (512 * b + 64 * w) (min 64 (count - (512 * b + 64 * w)))
      own = ap ones e ∙ ones_word rs (512 * b + 64 * w) (min 64 (count - (512 * b + 64 * w)))

      on : Option ℕ
      on = kth_of (index_of rs count room) (first_word b + w + 1) n (512 * b + 64 * w + 64) (k - ones word)

      j : first_word b + w + 1 ≡ first_word b + (w + 1)
      j = omega arith

      i : 512 * b + 64 * w + 64 ≡ 512 * b + 64 * (w + 1)
      i = omega arith

      next : on ≡ kth_of (index_of rs count room) (first_word b + (w + 1)) n (512 * b + 64 * (w + 1)) (k - ones word)
      next = ap (λ (x : ℕ). kth_of (index_of rs count room) x n (512 * b + 64 * w + 64) (k - ones word)) j
          ∙ ap (λ (x : ℕ). kth_of (index_of rs count room) (first_word b + (w + 1)) n x (k - ones word)) i

      same : (kth_start rs (512 * b + 64 * (w + 1)) (min (64 * n) (count - (512 * b + 64 * (w + 1)))) (k - ones word))
          ≡ (kth_start rs (512 * b + 64 * w + 64) (min (64 * n) (count - (512 * b + 64 * w + 64))) (k - starts_in rs (512 * b + 64 * w) (min 64 (count - (512 * b + 64 * w)))))
      same = ap (λ (x : ℕ). (kth_start rs x (min (64 * n) (count - x)) (k - ones word))) (sym i)
          ∙ ap (λ (x : ℕ). (kth_start rs (512 * b + 64 * w + 64) (min (64 * n) (count - (512 * b + 64 * w + 64))) (k - x))) own

-- ---- the bisection: below k at its end, and not below k at the next, of whatever words
pub record Ends (index : List ℕ) (k blocks r : ℕ) : Type 0 where
  pub below : total_of index r < k
  pub inside : r < blocks
  pub next : (r + 1 ≡ blocks) ⊎ ((r + 1 < blocks) × (k ≤ total_of index (r + 1)))

abbrev Above : List ℕ → ℕ → ℕ → ℕ → Type 0
Above index k blocks high = (high ≡ blocks) ⊎ ((high < blocks) × (k ≤ total_of index high))

pub bisect-ends : (turns : ℕ) (index : List ℕ) (k blocks low high : ℕ) → total_of index low < k → low < high → high ≤ blocks → high - low ≤ turns → Above index k blocks high
    → Ends index k blocks (bisect turns index k low high)
unfolding bisect
bisect-ends zero index k blocks low high t l m h a = absurd (omega arith)
bisect-ends (suc turns) index k blocks low high t l m h a =
    go (ltb 1 (high - low)) refl (λ q u v. bisect-ends turns index k blocks (low + (high - low) / 2) high v (omega arith) m (omega arith) a)
    (λ q u v. bisect-ends turns index k blocks low (low + (high - low) / 2) t (omega arith) (omega arith) (omega arith) (inr (omega arith, v))) where
      middle : ℕ
      middle = low + (high - low) / 2

      ended : (e : high ≡ low + 1) → Above index k blocks high → Ends index k blocks low
      ended e (inl g) = record { below = t; inside = omega arith; next = inl (omega arith) }
      ended e (inr g) = record { below = t; inside = omega arith; next = inr (omega arith, rw (← e) g.1) }

      halves : (s : Bool) → ltb (total_of index middle) k ≡ s → 1 < high - low
          → (1 < high - low → Unit {0} → total_of index middle < k → Ends index k blocks (bisect turns index k middle high))
          → (1 < high - low → Unit {0} → k ≤ total_of index middle → Ends index k blocks (bisect turns index k low middle))
          → Ends index k blocks (cond s (bisect turns index k middle high) (bisect turns index k low middle))
      halves true e q up down = up q tt (ltb-true (total_of index middle) k e)
      halves false e q up down = down q tt (ltb-false (total_of index middle) k e)

      go : (s : Bool) → ltb 1 (high - low) ≡ s
          → (1 < high - low → Unit {0} → total_of index middle < k → Ends index k blocks (bisect turns index k middle high))
          → (1 < high - low → Unit {0} → k ≤ total_of index middle → Ends index k blocks (bisect turns index k low middle))
          → Ends index k blocks (cond s (cond (ltb (total_of index middle) k) (bisect turns index k middle high) (bisect turns index k low middle)) low)
      go true e up down = halves (ltb (total_of index middle) k) refl (ltb-true 1 (high - low) e) up down
      go false e up down = ended (omega (arith, ltb-false 1 (high - low) e)) a

-- ---- one block is enough
block-enough : (rs : List ℕ) (count room b k : ℕ) → need count ≤ room → Ends (index_of rs count room) k (blocks_of count) b
    → (kth_start rs (512 * b) (min 512 (count - 512 * b)) (k - total_of (index_of rs count room) b)) ≡ (kth_start rs 0 count k)
block-enough rs count room b k r ends = sym ((ap (λ (m : ℕ). kth_start rs 0 m k) all ∙ kth-behind rs (512 * b) (count - 512 * b) 0 k before
    ∙ ap (λ (i : ℕ). kth_start rs i (count - 512 * b) (k - starts_in rs 0 (512 * b))) (zero-add (512 * b)) ∙ go ends.next
    ∙ ap (λ (t : ℕ). kth_start rs (512 * b) (min 512 (count - 512 * b)) (k - t)) (sym total))) where
      total : total_of (index_of rs count room) b ≡ starts_in rs 0 (512 * b)
      total = total_cell rs count room b r ends.inside

      before : starts_in rs 0 (512 * b) < k
      before = omega (arith, total, ends.below)

      all : count ≡ 512 * b + (count - 512 * b)
      all = omega (arith, ends.inside)

      go : (b + 1 ≡ blocks_of count) ⊎ ((b + 1 < blocks_of count) × (k ≤ total_of (index_of rs count room) (b + 1)))
          → kth_start rs (512 * b) (count - 512 * b) (k - starts_in rs 0 (512 * b)) ≡ kth_start rs (512 * b) (min 512 (count - 512 * b)) (k - starts_in rs 0 (512 * b))
      go (inl e) = let m : min 512 (count - 512 * b) ≡ count - 512 * b = omega arith in rw m
      go (inr (l, u)) =
          let m : min 512 (count - 512 * b) ≡ 512 = omega arith in
          let more : count - 512 * b ≡ 512 + (count - 512 * b - 512) = omega arith in
          let end : 512 * (b + 1) ≡ 512 * b + 512 = omega arith in
          let sum : starts_in rs 0 (512 * (b + 1)) ≡ starts_in rs 0 (512 * b) + starts_in rs (512 * b) 512 =
          ap (starts_in rs 0) end ∙ starts-append rs (512 * b) 512 0 ∙ ap (λ (i : ℕ). starts_in rs 0 (512 * b) + starts_in rs i 512) (zero-add (512 * b)) in
          let upto : k - starts_in rs 0 (512 * b) ≤ starts_in rs (512 * b) 512 = omega (arith, sum, total_cell rs count room (b + 1) r l, u) in
          ap (λ (x : ℕ). kth_start rs (512 * b) x (k - starts_in rs 0 (512 * b))) more
          ∙ kth-within rs 512 (count - 512 * b - 512) (512 * b) (k - starts_in rs 0 (512 * b)) (omega (arith, before)) upto
          ∙ ap (λ (x : ℕ). kth_start rs (512 * b) x (k - starts_in rs 0 (512 * b))) (sym m)

-- what is found is an instruction that there is
in_count-kept : (rs : List ℕ) (count k : ℕ) → 0 < k → in_count count (kth_start rs 0 count k) ≡ (kth_start rs 0 count k)
in_count-kept rs count k h = go (kth_start rs 0 count k) refl where
  go : (o : Option ℕ) → kth_start rs 0 count k ≡ o → in_count count o ≡ o
  go None e = refl
  go (Some p) e = let i = kth-inverts rs count 0 k p h e in rw (lt-ltb p count (omega (arith, i.1)))

none_before : (rs : List ℕ) → starts_in rs 0 (512 * 0) ≡ 0
unfolding starts_in
none_before rs = refl

pub kth-finds : (rs : List ℕ) (count room k : ℕ) → need count ≤ room → kth (index_of rs count room) count k ≡ (kth_start rs 0 count k)
unfolding kth
kth-finds rs count room zero r =
    let b = block_with (index_of rs count room) (blocks_of count) 0 in
    rw (le-ltb (total_of (index_of rs count room) b) 0 (omega arith)) (sym ((kth_zero rs 0 count)))
kth-finds rs count room (suc m) r =
    let k = suc m in
    let index = index_of rs count room in
    let first : total_of index 0 < k = omega (arith, none_before rs, total_cell rs count room 0 r (omega arith)) in
    let ends = bisect-ends (blocks_of count) index k (blocks_of count) 0 (blocks_of count) first (omega arith) (omega arith) (omega arith) (inl refl) in
    let b = block_with index (blocks_of count) k in
    ap (in_count count) (ap (λ (t : Bool). cond t (kth_of index (first_word b) 8 (512 * b) (k - total_of index b)) None) (lt-ltb (total_of index b) k ends.below)
    ∙ found b (k - total_of index b) ends.inside (omega (arith, ends.below)) ∙ block-enough rs count room b k r ends)
    ∙ in_count-kept rs count k (omega arith) where
      found : (b c : ℕ) → b < blocks_of count → 0 < c → kth_of (index_of rs count room) (first_word b) 8 (512 * b) c ≡ (kth_start rs (512 * b) (min 512 (count - 512 * b)) c)
      found b c h p =
          let z : first_word b + 0 ≡ first_word b = omega arith in
          let i : 512 * b + 64 * 0 ≡ 512 * b = omega arith in
          rw (z, i) at (words-found rs count room b 8 0 c r h refl p)
