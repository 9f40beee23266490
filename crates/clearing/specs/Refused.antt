-- No export and no promise rests on this page.
-- What a lent store holds once a refused call has cleared it.
-- 01: "every store lent for writing is all zero", where a call is refused.
use Rattle.std.specs.Prelude.{ℕ, List, length, Result, Ok, Err}
use Rattle.clearing.specs.Lent.{zeros}

-- what a part of a call left in the store, and all zero where the part is refused
abbrev pub unless_refused : {A E : Type 0} → Result A E → List ℕ → List ℕ
unless_refused (Ok x) left = left
unless_refused (Err why) left = zeros (length left)
