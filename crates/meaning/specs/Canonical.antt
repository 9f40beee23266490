-- The bytes that a value is written as: no references, no flags, each kind as the writer's Canonical says.
-- 01, 'Writing it back'. Local names stand here in their order in the value; the writer's groups are that order for a value in name order.
use Rattle.std.specs.Prelude.{ℕ, ◌+◌, List, [], ◌∷◌, ◌++◌, get_or}
use Rattle.writing.specs.Canonical.{bytes32, bytes64, words, integer_bytes, sized, code_string}
use Rattle.writing.specs.Steps.{Manner, as_value, as_names, as_locals, as_string, manners}
use Rattle.meaning.specs.Value.{Value, Values, nil, more, single, integer, float, complex, bytes, text, sequence, slice, dict, code, count_of, contents_of, members_of}
use Rattle.grammar.specs.LetterNames.{float_letter, complex_letter, bytes_letter, unicode_letter, tuple_letter, slice_letter, dict_letter, code_letter, null_letter}

-- "Code strings are `z` if ASCII and under 256 bytes, else `u`": a code's names, and its file, name and qualified name
unfoldable pub code_strings : Values → List ℕ
code_strings nil = []
code_strings (more v vs) = code_string (contents_of v) ++ code_strings vs

abbrev pub names_bytes : Values → List ℕ
names_bytes vs = tuple_letter ∷ bytes32 (count_of vs) ++ code_strings vs

-- a part of a code, given its bytes as any value
abbrev pub part_bytes : Manner → (plain : List ℕ) → Value → List ℕ
part_bytes as_value plain v = plain
part_bytes as_names plain v = names_bytes (members_of v)
part_bytes as_locals plain v = names_bytes (members_of v)
part_bytes as_string plain v = code_string (contents_of v)

unfoldable mutual
  pub canonical : Value → List ℕ
  canonical (single letter) = letter ∷ []
  canonical (integer z) = integer_bytes z
  canonical (float bits) = float_letter ∷ bytes64 bits
  canonical (complex real imaginary) = complex_letter ∷ bytes64 real ++ bytes64 imaginary
  canonical (bytes contents) = sized bytes_letter contents
  canonical (text contents) = sized unicode_letter contents
  canonical (sequence letter vs) = letter ∷ bytes32 (count_of vs) ++ canonical_all vs
  canonical (slice vs) = slice_letter ∷ canonical_all vs
  canonical (dict vs) = dict_letter ∷ canonical_all vs ++ null_letter ∷ []
  canonical (code numbers parts line tables) = code_letter ∷ words numbers ++ canonical_parts 0 parts ++ bytes32 line ++ canonical_all tables

  pub canonical_all : Values → List ℕ
  canonical_all nil = []
  canonical_all (more v vs) = canonical v ++ canonical_all vs

  -- the parts before the first line, from the ith on
  pub canonical_parts : (i : ℕ) → Values → List ℕ
  canonical_parts i nil = []
  canonical_parts i (more v vs) = part_bytes (get_or manners i as_value) (canonical v) v ++ canonical_parts (i + 1) vs
