-- No export and no promise rests on this page.
-- A writing under way: what is written so far, and what is left still comes to the same answer. 01, 'Writing it back': "as they come".
use Rattle.std.specs.Prelude.{◌≡◌, ℕ, ◌≤◌, List, length, take, drop}
use Rattle.writing.specs.Writing.{Writing, into}

-- from `at` on the writing w₀ was asked for; the output is written up to p, and w is left
pub record Onward (o₀ : List ℕ) (at : ℕ) (w₀ : Writing) (o : List ℕ) (p : ℕ) (w : Writing) : Type 0 where
  pub same : length o ≡ length o₀
  pub ahead : at ≤ p
  pub inside : p ≤ length o₀
  pub kept : drop p o ≡ drop p o₀
  pub comes : into (length o₀) (take p o) w ≡ into (length o₀) (take at o₀) w₀
