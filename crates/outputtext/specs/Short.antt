-- No export and no promise rests on this page.
-- Which strings are written with a length of one byte. 01, 'Writing it back': "Code strings are `z` if ASCII and under 256 bytes, else `u`."
use Rattle.std.specs.Prelude.{◌≡◌, ℕ, ◌<◌, Bool, true, ◌&&◌, List, length, ltb}
use Rattle.writing.specs.Canonical.{ascii}

-- "`z` if ASCII and under 256 bytes": whether the bytes are so
pub record Short (bytes : List ℕ) (r : Bool) : Type 0 where
  pub small : r ≡ true → length bytes < 256
  pub tells : r ≡ (ltb (length bytes) 256 && ascii bytes)
