-- The fields that stand behind a header and are read without looking at any child: each with its refusal and place.
-- 01, 'Reading a value': "All numbers are little-endian." marshal.c: r_short, r_long, r_long64, r_float_bin, r_PyLong, r_string.
use Rattle.std.specs.Prelude.{ℕ, zero, suc, ◌+◌, ◌-◌, ◌*◌, ◌%◌, Bool, cond, List, leb, ltb, eqb, length, get_or}
use Rattle.std.proofs.Math.Seq.{slice}
use Rattle.refusals.specs.Numbers.{accepted, data_too_short, bad_size, invalid_bytecode, invalid_utf8, number_range}
use Rattle.wtf8.specs.Forms.{well_formed}
use Rattle.grammar.specs.Reading.{Answer, gives, stops}
use Rattle.grammar.specs.Letters as letter
use Rattle.grammar.specs.Letters.{Form, Sort}
use Rattle.grammar.specs.Arguments.{argument_sum}

-- Little-endian numbers of two, four and eight bytes.
abbrev pub le16 : List ℕ → ℕ → ℕ
le16 s at = get_or s at 0 + get_or s (at + 1) 0 * 256

abbrev pub le32 : List ℕ → ℕ → ℕ
le32 s at = get_or s at 0 + get_or s (at + 1) 0 * 256 + get_or s (at + 2) 0 * 65536 + get_or s (at + 3) 0 * 16777216

abbrev pub le64 : List ℕ → ℕ → ℕ
le64 s at =
    get_or s at 0 + get_or s (at + 1) 0 * 256 + get_or s (at + 2) 0 * 65536 + get_or s (at + 3) 0 * 16777216
    + get_or s (at + 4) 0 * 4294967296 + get_or s (at + 5) 0 * 1099511627776 + get_or s (at + 6) 0 * 281474976710656
    + get_or s (at + 7) 0 * 72057594037927936

-- A signed 32-bit number is not negative.
abbrev pub not_negative : ℕ → Bool
not_negative word = ltb word 2147483648

-- The bytes of the input from a place on.
abbrev pub contents : List ℕ → ℕ → ℕ → List ℕ
contents s at size = slice at (at + size) s

-- What a node's fields say: its place and size, and the children to come. What comes next stands at place + size.
-- 01, 'What is lent and what is kept': "Place and size".
pub data Children : Type 0 where
  items : ℕ → Children
  pairs : Children
  parts : Children

pub record Fields : Type 0 where
  pub place : ℕ
  pub size : ℕ
  pub children : Children

abbrev pub span : ℕ → ℕ → Children → Answer Fields
span place size children = gives (record { place = place; size = size; children = children })

-- 01's table: DataTooShort at "start of the field (digit, float, `I` whole)". A field of so many bytes, and then the rest.
abbrev pub field : {A : Type 0} → List ℕ → ℕ → ℕ → Answer A → Answer A
field s at size rest = cond (leb (at + size) (length s)) rest (stops data_too_short at)

-- 01: "with a signed 32-bit length (negative: 6)", at the length field.
abbrev pub size32 : {A : Type 0} → List ℕ → ℕ → Answer A → Answer A
size32 s at rest = field s at 4 (cond (not_negative (le32 s at)) rest (stops bad_size at))

-- 01: "All strings, ASCII letters too, are UTF-8 with surrogate code points allowed (9)", at the "first content byte".
abbrev pub string : {A : Type 0} → List ℕ → ℕ → ℕ → Answer A → Answer A
string s at size rest = field s at size (cond (well_formed (contents s at size)) rest (stops invalid_utf8 at))

-- 01: "Long: a signed 32-bit count; 0 is zero, its sign is the number's."
abbrev pub digit_count : ℕ → ℕ
digit_count word = cond (not_negative word) word (4294967296 - word)

-- "Each 15-bit digit is read, then refused (8) at 32,768 or above."
unfoldable pub digits : {A : Type 0} → List ℕ → ℕ → ℕ → Answer A → Answer A
digits s zero at rest = rest
digits s (suc more) at rest = field s at 2 (cond (ltb (le16 s at) 32768) (digits s more (at + 2) rest) (stops invalid_bytecode at))

-- "After the last, a zero last digit is 8."
abbrev pub last_digit : {A : Type 0} → List ℕ → ℕ → ℕ → Answer A → Answer A
last_digit s zero at rest = rest
last_digit s (suc more) at rest = cond (eqb (le16 s (at + 2 * more)) 0) (stops invalid_bytecode (at + 2 * more)) rest

-- "`l`, from its digit count, 4 + 2 x digits".
unfoldable pub pylong : List ℕ → ℕ → ℕ → Answer Fields
pylong s at count = digits s count (at + 4) (last_digit s count (at + 4) (span at (4 + 2 * count) (items 0)))

-- 01: "Five 32-bit numbers (arguments, positional-only, keyword-only, stack, flags)", each a field of its own.
unfoldable pub numbers : {A : Type 0} → List ℕ → ℕ → ℕ → Answer A → Answer A
numbers s zero at rest = rest
numbers s (suc more) at rest = field s at 4 (numbers s more (at + 4) rest)

-- how many they are, and their bytes
abbrev pub code_words : ℕ
code_words = 5

abbrev pub code_numbers : ℕ
code_numbers = 20

-- the argument sum of the code whose numbers stand at a place
abbrev pub sum_at : List ℕ → ℕ → ℕ
sum_at s at = argument_sum (le32 s at) (le32 s (at + 8)) (le32 s (at + 16))

-- The fields of each form, from the byte after the header on: "singletons, the byte after the header and 0; `i` 4, `I` 8, `g` 8, `y` 16;
-- `l`, from its digit count ..; containers, the byte after the header and the size of the length field (4, 1, or 0 for dict and slice)".
unfoldable pub fields : List ℕ → Form → ℕ → Answer Fields
fields s letter.single at = span at 0 (items 0)
fields s (letter.fixed size) at = field s at size (span at size (items 0))
fields s letter.double at = field s at 8 (field s (at + 8) 8 (span at 16 (items 0)))
fields s letter.long at = field s at 4 (pylong s at (digit_count (le32 s at)))
fields s letter.sequence at = size32 s at (span at 4 (items (le32 s at)))
fields s letter.few at = field s at 1 (span at 1 (items (get_or s at 0)))
fields s letter.slice at = span at 0 (items 3)
fields s letter.dict at = span at 0 pairs

-- "strings and bytes, their contents".
unfoldable pub contained : List ℕ → Sort → ℕ → Answer Fields
contained s letter.bytes at = size32 s at (field s (at + 4) (le32 s at) (span (at + 4) (le32 s at) (items 0)))
contained s letter.text at = size32 s at (string s (at + 4) (le32 s at) (span (at + 4) (le32 s at) (items 0)))
contained s letter.short at = field s at 1 (string s (at + 1) (get_or s at 0) (span (at + 1) (get_or s at 0) (items 0)))

-- "code, place of the argument count and distance to the first line number", which is known when the first line is read.
unfoldable pub code_fields : List ℕ → ℕ → Answer Fields
code_fields s at = numbers s code_words at (span at code_numbers parts)

-- 01: "At the end: local names and kinds of unequal length 8; argument sum (the split's) above 32 bits 18; an odd number of code
-- bytes 8." The number of the refusal, if there is one.
abbrev pub code_fault : (sum code_bytes local_names kinds : ℕ) → ℕ
code_fault sum code_bytes local_names kinds =
    cond (eqb local_names kinds)
    (cond (ltb sum 4294967296)
    (cond (eqb (code_bytes % 2) 0) accepted invalid_bytecode)
    number_range)
    invalid_bytecode
