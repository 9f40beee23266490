-- The letters that a value can begin with, and what follows each.
-- 01, 'Reading a value': "Bit 0x80 is the reference flag; the rest is the letter." marshal.c: the TYPE_ constants and FLAG_REF.
use Rattle.std.specs.Prelude.{ℕ, ◌/◌, ◌%◌, Bool, true, false, cond, List, [], ◌∷◌, eqb}
use Rattle.refusals.specs.Numbers.{unknown_type, null_object, not_carried}
use Rattle.grammar.specs.LetterNames.{none_letter, false_letter, true_letter, stop_letter, ellipsis_letter, int_letter, int64_letter, long_letter, float_letter, complex_letter, bytes_letter, unicode_letter, interned_letter, ascii_letter, ascii_interned_letter, short_letter, short_interned_letter, tuple_letter, small_tuple_letter, list_letter, set_letter, frozenset_letter, slice_letter, dict_letter, code_letter, reference_letter, null_letter, text_float_letter, text_complex_letter}

abbrev pub flag_of : ℕ → ℕ
flag_of byte = byte / 128

abbrev pub letter_of : ℕ → ℕ
letter_of byte = byte % 128

-- What follows the header of a node whose place is the byte after it.
pub data Form : Type 0 where
  -- nothing
  single : Form
  -- one field of so many bytes
  fixed : ℕ → Form
  -- two fields of eight
  double : Form
  -- a signed count of digits, and the digits
  long : Form
  -- a 32-bit length, or a one-byte length, and so many values
  sequence few : Form
  -- three values
  slice : Form
  -- pairs up to the null in a key's place
  dict : Form

-- What follows the header of a node whose place is its contents: a 32-bit length and any bytes, or a string, or a one-byte length and a string.
pub data Sort : Type 0 where
  bytes text short : Sort

-- What becomes of a header: a reference is looked up, a kept letter says what follows, any other is refused.
pub data Class : Type 0 where
  refers : Class
  keeps : Form → Class
  contains : Sort → Class
  codes : Class
  refuses : (number : ℕ) → Class

-- 01: "Letters: `N F T S .` none, false, true, stop, ellipsis; `i` and `I` signed 32 and 64 bits; `g`, `y` float bits, one and two;
-- `s` bytes; `u t a A` strings and `( [ < >` tuple, list, set, frozenset with a signed 32-bit length (negative: 6); `z Z` string and
-- `)` tuple with a one-byte length; `:` three values; `{` pairs; `c` code"; "unknown letter 3, `0` 4, `f` or `x` 15".
unfoldable pub letters : List (ℕ × Class)
letters =
    -- N F T S .
    (none_letter, keeps single) ∷ (false_letter, keeps single) ∷ (true_letter, keeps single) ∷ (stop_letter, keeps single) ∷ (ellipsis_letter, keeps single)
    -- i I g y l
    ∷ (int_letter, keeps (fixed 4)) ∷ (int64_letter, keeps (fixed 8)) ∷ (float_letter, keeps (fixed 8)) ∷ (complex_letter, keeps double) ∷ (long_letter, keeps long)
    -- s, u t a A, z Z
    ∷ (bytes_letter, contains bytes)
    ∷ (unicode_letter, contains text) ∷ (interned_letter, contains text) ∷ (ascii_letter, contains text) ∷ (ascii_interned_letter, contains text)
    ∷ (short_letter, contains short) ∷ (short_interned_letter, contains short)
    -- ( [ < >, )
    ∷ (tuple_letter, keeps sequence) ∷ (list_letter, keeps sequence) ∷ (set_letter, keeps sequence) ∷ (frozenset_letter, keeps sequence)
    ∷ (small_tuple_letter, keeps few)
    -- : { c
    ∷ (slice_letter, keeps slice) ∷ (dict_letter, keeps dict) ∷ (code_letter, codes)
    -- r, 0, f x
    ∷ (reference_letter, refers) ∷ (null_letter, refuses null_object) ∷ (text_float_letter, refuses not_carried) ∷ (text_complex_letter, refuses not_carried)
    ∷ []

unfoldable pub found : ℕ → List (ℕ × Class) → Class
found letter [] = refuses unknown_type
found letter (l ∷ ls) = cond (eqb letter l.0) l.1 (found letter ls)

unfoldable pub class_of : ℕ → Class
class_of letter = found letter letters

-- 01: "Each part is checked when read: bytes, tuple, tuple of strings, or string, else 7".
abbrev pub among : ℕ → List ℕ → Bool
among letter [] = false
among letter (l ∷ ls) = cond (eqb letter l) true (among letter ls)

-- s
abbrev pub is_bytes : ℕ → Bool
is_bytes letter = among letter (bytes_letter ∷ [])

-- ( )
abbrev pub is_tuple : ℕ → Bool
is_tuple letter = among letter (tuple_letter ∷ small_tuple_letter ∷ [])

-- u t a A z Z
abbrev pub is_string : ℕ → Bool
is_string letter = among letter (unicode_letter ∷ interned_letter ∷ ascii_letter ∷ ascii_interned_letter ∷ short_letter ∷ short_interned_letter ∷ [])

-- 01: "0x30 or 0xB0 ends it": the null, flagged or not, in a key's place
abbrev pub ends_dict : ℕ → Bool
ends_dict byte = eqb (letter_of byte) null_letter
