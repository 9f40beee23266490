-- What is promised of decimals. `proofs/Promised` has the theorem.
use Rattle.std.specs.Prelude.{◌≡◌, List, [], ◌∷◌, ◌++◌, ℕ, ◌≤◌, length, get_or}
use Rattle.decimals.specs.Decimal.{digit, decimal, worth}

-- every byte is one of the ten digits
abbrev pub Digits : List ℕ → Type 0
Digits [] = Unit {0}
Digits (byte ∷ rest) = (0x30 ≤ byte) × (byte ≤ 0x39) × Digits rest

-- the first byte is another than 0, or it is the only one
abbrev pub NoneInFront : List ℕ → Type 0
NoneInFront bytes = get_or bytes 0 0 ≡ digit 0 → length bytes ≡ 1

pub record Promised : Type 0 where
  -- the digits of a number are worth that number
  pub exact : (n : ℕ) → worth (decimal n) ≡ n
  pub digits : (n : ℕ) → Digits (decimal n)
  pub no_zero_in_front : (n : ℕ) → NoneInFront (decimal n)
  -- a number ends where a byte is no digit: what stands there tells the number and what is behind it
  pub ended :
      (m n after : ℕ) (xs ys : List ℕ) → after ≤ 0x2F → decimal m ++ after ∷ xs ≡ decimal n ++ after ∷ ys → (m ≡ n) × (xs ≡ ys)
