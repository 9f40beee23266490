-- The answers of the two questions, case by case, from what the calls before them told. Assumes nothing.
use Rattle.std.proofs.Common.{◌≡◌, ℕ, ◌+◌, ◌-◌, ◌*◌, ◌/◌, ◌%◌, ◌^◌, ◌<◌, ◌≤◌, List, length, get_or, ◌∙◌, arith, le-ltb, lt-ltb}
use lib.Count.{ones}
use Rattle.std.specs.Prelude.{Option, None, Result, Ok, Err}
use Rattle.refusals.specs.Faults.{fault}
use Rattle.refusals.specs.declared.Fault.{Fault}
use Rattle.refusals.specs.declared.Refusal.TheVariants.{NoRoom, NoSuchStart}
use Rattle.startindex.specs.Index.{blocks_of, need}
use Rattle.starts.specs.Questions.{total_of, first_word, ones_of, before, block_with, kth_of, in_count, kth, found, starts_before, start_at}

-- ---- how many before n
pub summed : (index : List ℕ) (n : ℕ) {sum low last r : ℕ} → sum ≡ ones_of index (first_word (n / 512)) (n % 512 / 64)
    → low ≡ get_or index (first_word (n / 512) + n % 512 / 64) 0 % 2 ^ (n % 64) → last ≡ ones low → r ≡ (total_of index (n / 512) + (sum + last)) % 2 ^ 64 → r ≡ before index n
unfolding before
summed index n s w l e = e ∙ rw (s, l, w)

pub before-short : (index : List ℕ) (count n : ℕ) {wanted : ℕ} {f : Fault} → wanted ≡ need count → length index < wanted → f ≡ fault NoRoom (length index) → Err f ≡ starts_before index count n
unfolding starts_before
before-short index count n w h e = let short : length index < need count = omega (arith, w, h) in rw (e, lt-ltb (length index) (need count) short)

pub before-beyond : (index : List ℕ) (count n : ℕ) {wanted : ℕ} {f : Fault} → wanted ≡ need count → wanted ≤ length index → count < n → f ≡ fault NoSuchStart 0 → Err f ≡ starts_before index count n
unfolding starts_before
before-beyond index count n w h b e = let enough : need count ≤ length index = omega (arith, w, h) in rw (e, le-ltb (length index) (need count) enough, lt-ltb count n b)

pub before-told : (index : List ℕ) (count n : ℕ) {wanted value : ℕ} → wanted ≡ need count → wanted ≤ length index → n ≤ count → value ≡ before index n → Ok value ≡ starts_before index count n
unfolding starts_before
before-told index count n w h b v =
    let enough : need count ≤ length index = omega (arith, w, h) in
    rw (v, le-ltb (length index) (need count) enough, le-ltb count n b)

-- ---- the k-th
pub kth_missing : (index : List ℕ) (count k : ℕ) {b : ℕ} → b ≡ block_with index (blocks_of count) k → k ≤ total_of index b → None ≡ kth index count k
unfolding kth
kth_missing index count k {b} e h = rw (← e, le-ltb (total_of index b) k h)

pub kth-found : (index : List ℕ) (count k : ℕ) {b : ℕ} {spot r : Option ℕ} → b ≡ block_with index (blocks_of count) k → total_of index b < k
    → spot ≡ kth_of index (first_word b) 8 (512 * b) (k - total_of index b) → r ≡ in_count count spot → r ≡ kth index count k
unfolding kth
kth-found index count k {b} e h s i = i ∙ rw (s, ← e, lt-ltb (total_of index b) k h)

pub at_short : (index : List ℕ) (count k : ℕ) {wanted : ℕ} {f : Fault} → wanted ≡ need count → length index < wanted → f ≡ fault NoRoom (length index) → Err f ≡ start_at index count k
unfolding start_at
at_short index count k w h e = let short : length index < need count = omega (arith, w, h) in rw (e, lt-ltb (length index) (need count) short)

pub at_answered : (index : List ℕ) (count k : ℕ) {wanted : ℕ} {spot : Option ℕ} {r : Result ℕ Fault} → wanted ≡ need count → wanted ≤ length index → spot ≡ kth index count k
    → r ≡ found spot → r ≡ start_at index count k
unfolding start_at
at_answered index count k w h s r = let enough : need count ≤ length index = omega (arith, w, h) in r ∙ rw (le-ltb (length index) (need count) enough, s)
