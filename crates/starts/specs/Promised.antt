-- What 02's K4 promises of an index that `index_starts` built, each sentence a field. `proofs/Promised` has the theorem. The index has `room` words,
-- at least as many as the count needs; instructions are numbered in 32 bits.
use Rattle.std.specs.Prelude.{◌≡◌, ℕ, ◌+◌, ◌<◌, ◌≤◌, true, List, None, Some}
use Rattle.clearing.specs.Lent.{padded}
use Rattle.startindex.specs.Starts.{is_start, starts_in, kth_start}
use Rattle.startindex.specs.Index.{need, built}
use Rattle.starts.specs.Questions.{before, kth}

-- what the lent index holds when it was built
abbrev pub index_of : List ℕ → ℕ → ℕ → List ℕ
index_of records count room = padded room (built records count)

pub record Promised : Type 0 where
  -- "how many starts lie before instruction n .. equal a count over the locations themselves"
  pub counts : (records : List ℕ) (count room n : ℕ) → need count ≤ room → count < 4294967296 → n ≤ count → before (index_of records count room) n ≡ starts_in records 0 n
  -- "where is the k-th start .. equal a count over the locations themselves"
  pub finds : (records : List ℕ) (count room k : ℕ) → need count ≤ room → kth (index_of records count room) count k ≡ kth_start records 0 count k
  -- the k-th start is a start, and before it lie k − 1
  pub inverts : (records : List ℕ) (count k p : ℕ) → kth_start records 0 count k ≡ Some p → (p < count) × (is_start records p ≡ true) × (starts_in records 0 p + 1 ≡ k)
  -- every start is the k-th for one k: the starts before it, and itself
  pub reaches : (records : List ℕ) (count p : ℕ) → p < count → is_start records p ≡ true → kth_start records 0 count (starts_in records 0 p + 1) ≡ Some p
  -- "no k-th start (k counts from 1)": k is 0, or there are fewer
  pub lacks : (records : List ℕ) (count k : ℕ) → kth_start records 0 count k ≡ None → 0 < k → starts_in records 0 count < k
  pub never : (records : List ℕ) (count : ℕ) → kth_start records 0 count 0 ≡ None
