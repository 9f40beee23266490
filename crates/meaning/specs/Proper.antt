-- Which values there are to write: those whose numbers, lengths, texts and code parts 01's reading allows. Every value read is one.
use Rattle.std.specs.Prelude.{◌≡◌, ℕ, ◌+◌, ◌%◌, ◌<◌, true, List, [], ◌∷◌, length, get_or}
use Rattle.refusals.specs.Numbers.{accepted}
use Rattle.wtf8.specs.Forms.{well_formed}
use Rattle.grammar.specs.LetterNames.{none_letter, false_letter, true_letter, stop_letter, ellipsis_letter, tuple_letter, list_letter, set_letter, frozenset_letter}
use Rattle.grammar.specs.Letters.{among}
use Rattle.grammar.specs.Arguments.{argument_sum}
use Rattle.grammar.specs.Fields.{code_fault}
use Rattle.grammar.specs.Steps.{Rule, whatever, as_bytes, as_tuple, as_names, as_string, rules, code_part, locals_part, kinds_part, line_part}
use Rattle.writing.specs.Canonical.{Integer, digits_of}
use Rattle.meaning.specs.Value.{Value, Values, nil, more, single, integer, float, complex, bytes, text, sequence, slice, dict, code, count_of, value_at, contents_of, members_of}

-- N F T S .
abbrev pub singles : List ℕ
singles = none_letter ∷ false_letter ∷ true_letter ∷ stop_letter ∷ ellipsis_letter ∷ []

-- ( [ < >
abbrev pub sequences : List ℕ
sequences = tuple_letter ∷ list_letter ∷ set_letter ∷ frozenset_letter ∷ []

unfoldable pub Below : (limit : ℕ) → List ℕ → Type 0
Below limit [] = Unit
Below limit (x ∷ xs) = (x < limit) × Below limit xs

-- "a signed 32-bit length (negative: 6)"
abbrev pub lengths : ℕ
lengths = 2147483648

abbrev pub Sized : List ℕ → Type 0
Sized contents = (length contents < lengths) × Below 256 contents

-- zero is not negative
abbrev pub Signed : Integer → Type 0
Signed z = z.negative ≡ true → 0 < z.magnitude

-- "Each part is checked when read: bytes, tuple, tuple of strings, or string, else 7"
abbrev pub AllTexts : Values → Type 0
AllTexts nil = Unit
AllTexts (more v vs) = (contents : List ℕ) × (v ≡ text contents) × AllTexts vs

abbrev pub Suits : Rule → Value → Type 0
Suits whatever v = Unit
Suits as_bytes v = (contents : List ℕ) × (v ≡ bytes contents)
Suits as_tuple v = (vs : Values) × (v ≡ sequence tuple_letter vs)
Suits as_names v = (vs : Values) × (v ≡ sequence tuple_letter vs) × AllTexts vs
Suits as_string v = (contents : List ℕ) × (v ≡ text contents)

-- the parts from the ith on
unfoldable pub SuitFrom : (i : ℕ) → Values → Type 0
SuitFrom i nil = Unit
SuitFrom i (more v vs) = Suits (get_or rules i whatever) v × SuitFrom (i + 1) vs

-- "local names and kinds of unequal length 8; argument sum (the split's) above 32 bits 18; an odd number of code bytes 8"
abbrev pub fault_in : (numbers : List ℕ) → (parts : Values) → ℕ
fault_in numbers parts =
    code_fault (argument_sum (get_or numbers 0 0) (get_or numbers 2 0) (get_or numbers 4 0)) (length (contents_of (value_at parts code_part)))
    (count_of (members_of (value_at parts locals_part))) (length (contents_of (value_at parts kinds_part)))

pub record ProperCode (numbers : List ℕ) (parts : Values) (line : ℕ) (tables : Values) : Type 0 where
  pub five : length numbers ≡ 5
  pub numbers_fit : Below 4294967296 numbers
  pub eight : count_of parts ≡ line_part
  pub line-fits : line < lengths
  pub two : count_of tables ≡ 2
  pub parts_suit : SuitFrom 0 parts
  pub tables_suit : SuitFrom line_part tables
  pub no_fault : fault_in numbers parts ≡ accepted

unfoldable mutual
  pub Proper : Value → Type 0
  Proper (single letter) = among letter singles ≡ true
  Proper (integer z) = Signed z × (length (digits_of z.magnitude) < lengths)
  Proper (float bits) = bits < 18446744073709551616
  Proper (complex real imaginary) = (real < 18446744073709551616) × (imaginary < 18446744073709551616)
  Proper (bytes contents) = Sized contents
  Proper (text contents) = Sized contents × (well_formed contents ≡ true)
  Proper (sequence letter vs) = (among letter sequences ≡ true) × (count_of vs < lengths) × ProperAll vs
  Proper (slice vs) = (count_of vs ≡ 3) × ProperAll vs
  Proper (dict vs) = (count_of vs % 2 ≡ 0) × ProperAll vs
  Proper (code numbers parts line tables) = ProperCode numbers parts line tables × ProperAll parts × ProperAll tables

  pub ProperAll : Values → Type 0
  ProperAll nil = Unit
  ProperAll (more v vs) = Proper v × ProperAll vs
