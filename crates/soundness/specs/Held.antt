-- No export and no promise rests on this page.
-- What the input holds at the place of a sound long number: its count, its digits, and a last digit that is not zero.
-- 01, 'Reading a value': "After the last, a zero last digit is 8."
use Rattle.std.specs.Prelude.{ℕ, ◌+◌, ◌-◌, ◌*◌, ◌≤◌, ◌<◌, List, length}
use Rattle.grammar.specs.Fields.{le16, le32, digit_count}

pub record LongAt (s : List ℕ) (at : ℕ) : Type 0 where
  pub here : at + 4 ≤ length s
  pub digits : at + 4 + 2 * digit_count (le32 s at) ≤ length s
  pub last : 0 < digit_count (le32 s at) → 0 < le16 s (at + 4 + 2 * (digit_count (le32 s at) - 1))
