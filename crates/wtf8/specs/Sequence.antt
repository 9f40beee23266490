-- No export and no promise rests on this page.
-- What the private functions promise of one sequence, in the words of Forms.
use Rattle.std.specs.Prelude.{◌≡◌, ℕ, ◌+◌, ◌≤◌, Bool, false, cond, List, leb, eqb, length, drop}
use Rattle.wtf8.specs.Forms.{Expected, point, allows}

-- The bytes from `at` on are well-formed just where a size was found and those after that many are.
pub record Taken (bytes : List ℕ) (at size : ℕ) : Type 0 where
  pub inside : at + size ≤ length bytes
  pub leaves : allows (drop at bytes) point ≡ cond (eqb size 0) false (allows (drop (at + size) bytes) point)

-- After the k bytes from `at` on, `e` is expected.
pub record Reached (bytes : List ℕ) (at k : ℕ) (e : Expected) : Type 0 where
  pub inside : at + k ≤ length bytes
  pub same : allows (drop at bytes) point ≡ allows (drop (at + k) bytes) e

-- The Unicode Standard's Table 3-7: bounds of the second byte, by a first byte from E0 to F4.
abbrev pub low_after : ℕ → ℕ
low_after lead = cond (eqb lead 0xE0) 0xA0 (cond (eqb lead 0xF0) 0x90 0x80)

abbrev pub high_after : ℕ → ℕ
high_after lead = cond (eqb lead 0xF4) 0x8F 0xBF

abbrev pub within : (low high byte : ℕ) → Bool
within low high byte = cond (leb low byte) (leb byte high) false
