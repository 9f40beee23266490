-- What the bytes say of a table that 02's K9 has repaired: the instructions that its added entries cover are told as from an entry that has
-- no line, and as nothing else. `proofs/Repaired` has the theorem.
use Rattle.std.specs.Prelude.{◌≡◌, false, List, ◌++◌, ℕ, ◌-◌, ◌≤◌, length, replicate}
use Rattle.refusals.specs.Limits.{most_bytes}
use Rattle.salvage.specs.Salvage.{salvaged, salvage}
use Rattle.sources.specs.Marks.{marked, sources, has}
use Rattle.sources.specs.Beside.{Each}

-- The bytes of a repaired table: those of kept entries, none of which is cut, and then 1 for each instruction that the list calls covered.
pub record RepairedBytes (s : List ℕ) (first count capacity : ℕ) : Type 0 where
  pub kept : List ℕ
  pub many : length kept ≡ count - (salvage s first count).covered
  pub unbroken : Each (λ b. has 32 b ≡ false) kept
  pub all : sources (salvaged s first count) first count capacity ≡ marked (kept ++ replicate (salvage s first count).covered 1)

-- "after K9's salvage the instructions covered are 1", wherever the repaired table is not refused: it is not too long, and there is room
pub record Repaired : Type 0 where
  pub covered : (s : List ℕ) (first count capacity : ℕ) → length (salvaged s first count) ≤ most_bytes → count ≤ capacity → RepairedBytes s first count capacity
