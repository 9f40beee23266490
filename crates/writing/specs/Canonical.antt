-- The bytes that each kind of value is written as. 01, 'Writing it back': "Integers in signed 32 bits are `i`, others `l` with the fewest
-- digits; strings `u`, tuples `(`, no references, no flags. Code strings are `z` if ASCII and under 256 bytes, else `u`."
use Rattle.std.specs.Prelude.{ℕ, zero, suc, ◌+◌, ◌-◌, ◌/◌, ◌%◌, Bool, true, false, cond, ◌&&◌, List, [], ◌∷◌, ◌++◌, length, leb, ltb}
use Rattle.grammar.specs.LetterNames.{int_letter, long_letter, unicode_letter, short_letter}

-- Little-endian numbers of two, four and eight bytes.
abbrev pub bytes16 : ℕ → List ℕ
bytes16 x = x % 256 ∷ x / 256 % 256 ∷ []

abbrev pub bytes32 : ℕ → List ℕ
bytes32 x = x % 256 ∷ x / 256 % 256 ∷ x / 256 / 256 % 256 ∷ x / 256 / 256 / 256 % 256 ∷ []

abbrev pub bytes64 : ℕ → List ℕ
bytes64 x = bytes32 (x % 4294967296) ++ bytes32 (x / 4294967296)

unfoldable pub words : List ℕ → List ℕ
words [] = []
words (x ∷ xs) = bytes32 x ++ words xs

-- An integer by its sign and its magnitude; zero is not negative.
pub record Integer : Type 0 where
  pub negative : Bool
  pub magnitude : ℕ

-- two's complement: the integer of so many bits, `half` being the first that stands for a negative one
abbrev pub of_bits : (half bits : ℕ) → Integer
of_bits half bits =
    cond (ltb bits half) (record { negative = false; magnitude = bits }) (record { negative = true; magnitude = half + half - bits })

abbrev pub bits_of : (all : ℕ) → Integer → ℕ
bits_of all z = cond z.negative (all - z.magnitude) z.magnitude

-- "in signed 32 bits"
abbrev pub in_signed32 : Integer → Bool
in_signed32 z = cond z.negative (leb z.magnitude 2147483648) (ltb z.magnitude 2147483648)

-- "the fewest digits": 15 bits each, least first, and none above the number. The first argument only bounds the recursion.
unfoldable pub digits_from : (bound magnitude : ℕ) → List ℕ
digits_from zero m = []
digits_from (suc bound) zero = []
digits_from (suc bound) (suc m) = suc m % 32768 ∷ digits_from bound (suc m / 32768)

abbrev pub digits_of : ℕ → List ℕ
digits_of m = digits_from m m

unfoldable pub digit_bytes : List ℕ → List ℕ
digit_bytes [] = []
digit_bytes (d ∷ ds) = bytes16 d ++ digit_bytes ds

-- "its sign is the number's": the count of digits, signed
abbrev pub long_bytes : Integer → List ℕ
long_bytes z =
    long_letter ∷ bytes32 (bits_of 4294967296 (record { negative = z.negative; magnitude = length (digits_of z.magnitude) }))
    ++ digit_bytes (digits_of z.magnitude)

unfoldable pub integer_bytes : Integer → List ℕ
unfolding digits_from digit_bytes
integer_bytes z = cond (in_signed32 z) (int_letter ∷ bytes32 (bits_of 4294967296 z)) (long_bytes z)

-- bytes and strings: letter, length, contents
abbrev pub sized : (letter : ℕ) → List ℕ → List ℕ
sized letter contents = letter ∷ bytes32 (length contents) ++ contents

unfoldable pub ascii : List ℕ → Bool
ascii [] = true
ascii (b ∷ bs) = ltb b 128 && ascii bs

unfoldable pub code_string : List ℕ → List ℕ
unfolding ascii
code_string contents =
    cond (ltb (length contents) 256 && ascii contents) (short_letter ∷ length contents ∷ contents) (sized unicode_letter contents)

-- "a first line of 0 or less as 0"
abbrev pub shown_line : ℕ → ℕ
shown_line word = cond (ltb word 2147483648) word 0
