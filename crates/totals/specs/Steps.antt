-- No export and no promise rests on this page.
-- What the parts of the counting take and leave: a store that holds totals and nothing behind them, and one that holds counts alone.
use Rattle.std.specs.Prelude.{◌≡◌, Bool, true, List, ℕ, ◌≤◌, length, get_or}
use Rattle.clearing.specs.Lent.{padded}
use Rattle.totals.specs.Totals.{counters, count_of, known, cells}

pub record Fresh (store : List ℕ) : Type 0 where
  pub room : counters ≤ length store
  pub beyond : (counter : ℕ) → counters ≤ counter → get_or store counter 0 ≡ 0

-- whether every answer is known, and then the store holds how many of them each counter counts
pub record Tallied (answers : List ℕ) (all : Bool) (left : List ℕ) : Type 0 where
  pub told : all ≡ known answers
  pub holds : known answers ≡ true → left ≡ padded (length left) (cells (λ counter. count_of counter answers))
