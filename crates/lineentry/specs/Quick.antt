-- No export and no promise rests on this page.
-- Which entries a loop over a table reads without a call, since most are such, and what they come to by their bytes: those of codes 0 to 12 of
-- which no byte is missing, and those of code 14 with four numbers of one byte each. That they are the entries there is proofs/Bytes.
use Rattle.std.specs.Prelude.{Bool, false, cond, ◌&&◌, List, ℕ, ◌+◌, ◌-◌, ◌/◌, ◌%◌, ◌^◌, ◌≤◌, ◌<◌, max, length, get_or, leb, ltb, eqb}
use Rattle.lineentry.specs.declared.Entry.{Entry}
use Rattle.lineentry.specs.declared.Entry.TheVariants.{OutOfRange}
use Rattle.lineentry.specs.Line.{as_signed, moved, shown}
use Rattle.lineentry.specs.Varint.{signed_of}
use Rattle.lineentry.specs.Entry.{location, covers, with_line, short_column}

-- ---- codes 0 to 12
-- a first byte and two more, the first of a code from 0 to 12
unfoldable pub is_plain : List ℕ → ℕ → Bool
is_plain s p = ltb 2 (length s - p) && (leb 128 (get_or s p 0) && ltb (get_or s p 0) 232)

pub record Plain (s : List ℕ) (p : ℕ) : Type 0 where
  pub room : p + 2 < length s
  pub starts : 128 ≤ get_or s p 0
  pub below : get_or s p 0 < 232

-- Both forms by the code and the two bytes behind it: codes 10 to 12 step down code - 10 lines, codes 0 to 9 none.
unfoldable pub plain_of : ℕ → ℕ → ℕ → ℕ → ℕ → ℕ → Entry
plain_of line code n b c p =
    cond (ltb (line + (code - 10)) (2 ^ 32))
    (covers n (line + (code - 10))
    (location (shown (line + (code - 10))) (cond (ltb code 10) (short_column code b) b + 1)
    (shown (line + (code - 10))) (cond (ltb code 10) (short_column code b + b % 16) c + 1))
    (p + cond (ltb code 10) 2 3) false)
    OutOfRange

-- ---- code 14
-- a number of one byte: "0x40 meaning more"
abbrev pub one_byte : ℕ → Bool
one_byte b = ltb (b % 128) 64

-- a first byte of code 14 and four numbers of one byte
unfoldable pub is_long_of_four : List ℕ → ℕ → Bool
is_long_of_four s p =
    ltb 4 (length s - p)
    && (eqb (get_or s p 0 / 8) 30
    && ((one_byte (get_or s (p + 1) 0) && one_byte (get_or s (p + 2) 0)) && (one_byte (get_or s (p + 3) 0) && one_byte (get_or s (p + 4) 0))))

pub record LongOfFour (s : List ℕ) (p : ℕ) : Type 0 where
  pub room : p + 4 < length s
  pub starts : 240 ≤ get_or s p 0
  pub below : get_or s p 0 < 248
  pub first : get_or s (p + 1) 0 % 128 < 64
  pub second : get_or s (p + 2) 0 % 128 < 64
  pub third : get_or s (p + 3) 0 % 128 < 64
  pub fourth : get_or s (p + 4) 0 % 128 < 64

unfoldable pub long_of : ℕ → ℕ → ℕ → ℕ → ℕ → ℕ → ℕ → Entry
long_of line n a b c d p =
    with_line (moved line (signed_of (a % 64))) λ to.
    with_line (moved to (as_signed (b % 64))) λ end.
    covers n to (location (shown to) (max 1 (c % 64)) (shown end) (max 1 (d % 64))) (p + 5) false
