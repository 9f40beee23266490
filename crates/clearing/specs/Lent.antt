-- What a store lent for writing holds when a call is over.
-- 01: "every store lent for writing is all zero. On acceptance, all past what was written is zero."
use Rattle.std.specs.Prelude.{ℕ, ◌-◌, List, ◌++◌, length, replicate}

-- a store of n numbers that is all zero
abbrev pub zeros : ℕ → List ℕ
zeros n = replicate n 0

-- a store of n numbers that holds what was written, then zeros
unfoldable pub padded : ℕ → List ℕ → List ℕ
padded n written = written ++ zeros (n - length written)
