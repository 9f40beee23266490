-- What 02's K14 promises of totals. `proofs/Promised` has the theorem.
use Rattle.std.specs.Prelude.{◌≡◌, List, [], ◌++◌, ℕ, ◌+◌, ◌<◌, Ok, Err}
use Rattle.totals.specs.Totals.{counters, Outcome, held_in, count_of, totals_of, added_of}

-- "Accepted plus refused is inputs."
abbrev pub Balanced : List ℕ → Type 0
Balanced store = held_in store 1 + held_in store 2 ≡ held_in store 0

-- Answers in parts, put together two at a time.
pub data Grouping : Type 0 where
  part : List ℕ → Grouping
  both : Grouping → Grouping → Grouping

unfoldable pub answers_of : Grouping → List ℕ
answers_of (part answers) = answers
answers_of (both g h) = answers_of g ++ answers_of h

-- two outcomes added; a refused one is the answer
abbrev pub both_added : ℕ → Outcome → Outcome → Outcome
both_added room (Ok done, xs) (Ok done', ys) = added_of xs ys room
both_added room (Ok done, xs) (Err why, ys) = (Err why, ys)
both_added room (Err why, xs) other = (Err why, xs)

-- each part counted by itself, the totals added as they are grouped
unfoldable pub totals_of_parts : ℕ → Grouping → Outcome
totals_of_parts room (part answers) = totals_of [] answers room
totals_of_parts room (both g h) = both_added room (totals_of_parts room g) (totals_of_parts room h)

pub record Promised : Type 0 where
  -- "Accepted plus refused is inputs", wherever it was so before
  pub balanced :
      (before answers : List ℕ) (room : ℕ) (left : List ℕ) → totals_of before answers room ≡ (Ok tt, left) → Balanced before → Balanced left
  -- each counter grows by the number of such answers
  pub grown :
      (before answers : List ℕ) (room : ℕ) (left : List ℕ) → totals_of before answers room ≡ (Ok tt, left)
      → (counter : ℕ) → counter < counters → held_in left counter ≡ held_in before counter + count_of counter answers
  -- totals of parts add up to the totals of the whole, in any grouping, refusals included
  pub grouped : (room : ℕ) (parts : Grouping) → totals_of_parts room parts ≡ totals_of [] (answers_of parts) room
