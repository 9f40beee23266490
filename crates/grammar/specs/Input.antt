-- What an input is: bytes. Its type, a slice of bytes, says so; the definitions of a reading do not look at it. A theorem that needs it names it.
use Rattle.std.specs.Prelude.{ℕ, ◌<◌, List, get_or}

-- 01, 'What is lent and what is kept': "Input: at most 16,777,216 bytes": every number is below 256.
abbrev pub Bytes : List ℕ → Type 0
Bytes s = (i : ℕ) → get_or s i 0 < 256
