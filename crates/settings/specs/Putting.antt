-- No export and no promise rests on this page.
-- What an output comes to when more bytes are put behind those that are written: nothing, where they do not all fit; else how many bytes
-- are written, and the output. By it the loops of the rewriting are told.
use Rattle.std.specs.Prelude.{ℕ, ◌+◌, ◌≤◌, ◌≡◌, cond, List, ◌++◌, ltb, length}
use Rattle.std.specs.Prelude as rust
use Rattle.std.proofs.Math.Option.{Option, none, some}
use Rattle.std.proofs.lemmas.List.Edits.{sets}

unfoldable pub after : ℕ → ℕ → List ℕ → List ℕ → Option (ℕ × List ℕ)
after room used out bytes = cond (ltb room (used + length bytes)) none (some (used + length bytes, sets out used bytes))

-- the same behind a count of bytes, where there is one
abbrev pub after_count : ℕ → rust.Option ℕ → List ℕ → List ℕ → Option (ℕ × List ℕ)
after_count room rust.None out bytes = none
after_count room (rust.Some used) out bytes = after room used out bytes

-- From `used` bytes and `out` one comes to `r` and `out'` by putting these bytes, or by finding that they do not fit: then `r` is no count.
pub record Puts (room used : ℕ) (out bytes : List ℕ) (r : rust.Option ℕ) (out' : List ℕ) : Type 0 where
  pub upto : {n : ℕ} → r ≡ rust.Some n → n ≤ room
  pub comes : (more : List ℕ) → after_count room r out' more ≡ after room used out (bytes ++ more)
