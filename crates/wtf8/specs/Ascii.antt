-- No export and no promise rests on this page.
-- What it is that bytes are ASCII, and the greatest of bytes, by which the code finds it out.
use Rattle.std.specs.Prelude.{◌≡◌, Bool, true, List, ℕ, ◌≤◌, ◌<◌, length, get_or}

-- No byte exceeds the bound.
abbrev pub UpTo : (bound : ℕ) → List ℕ → Type 0
UpTo bound bytes = (k : ℕ) → k < length bytes → get_or bytes k 0 ≤ bound

-- True exactly where every byte is below 128.
pub record Tells (bytes : List ℕ) (answer : Bool) : Type 0 where
  pub low : answer ≡ true → UpTo 0x7F bytes
  pub all : UpTo 0x7F bytes → answer ≡ true

-- The greatest of the bytes, or 0: the least bound that none exceeds.
pub record Greatest (bytes : List ℕ) (most : ℕ) : Type 0 where
  pub bound : UpTo most bytes
  pub least : (m : ℕ) → UpTo m bytes → most ≤ m
