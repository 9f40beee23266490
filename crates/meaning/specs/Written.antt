-- No export and no promise rests on this page.
-- What is written of any value, also of one out of name order: its canonical bytes, but for the local names of its codes, which come in
-- their groups. 01, 'Writing it back': "Local names are written as all Local, then Cell whose name equals no Local name, then Free; kinds as
-- stored".
use Rattle.std.specs.Prelude.{ℕ, ◌+◌, cond, List, [], ◌∷◌, ◌++◌, length, get_or}
use Rattle.localsplus.specs.Kind.{local_bit, cell_bit, free_bit, has}
use Rattle.grammar.specs.LetterNames.{float_letter, complex_letter, bytes_letter, unicode_letter, tuple_letter, slice_letter, dict_letter, code_letter, null_letter}
use Rattle.grammar.specs.Steps.{kinds_part}
use Rattle.writing.specs.Canonical.{bytes32, bytes64, words, integer_bytes, sized, code_string}
use Rattle.writing.specs.Steps.{Manner, as_value, as_names, as_locals, as_string, manners}
use Rattle.meaning.specs.Value.{Value, Values, nil, more, single, integer, float, complex, bytes, text, sequence, slice, dict, code, count_of, value_at, contents_of, contents_all, members_of}
use Rattle.meaning.specs.Canonical.{names_bytes}
use Rattle.meaning.specs.Order.{is_equal_to}

-- the names whose kind has a bit, in order
unfoldable pub with_bit : (bit : ℕ) → (kinds : List ℕ) → (names : List (List ℕ)) → List (List ℕ)
with_bit bit [] names = []
with_bit bit (kind ∷ kinds) [] = []
with_bit bit (kind ∷ kinds) (name ∷ names) = cond (has bit kind) (name ∷ with_bit bit kinds names) (with_bit bit kinds names)

-- "Cell whose name equals no Local name"
unfoldable pub apart : (locals cells : List (List ℕ)) → List (List ℕ)
apart locals [] = []
apart locals (name ∷ names) = cond (is_equal_to name locals) (apart locals names) (name ∷ apart locals names)

unfoldable pub groups : (kinds : List ℕ) → (names : List (List ℕ)) → List (List ℕ)
groups kinds names = with_bit local_bit kinds names ++ apart (with_bit local_bit kinds names) (with_bit cell_bit kinds names) ++ with_bit free_bit kinds names

unfoldable pub name_strings : List (List ℕ) → List ℕ
name_strings [] = []
name_strings (name ∷ names) = code_string name ++ name_strings names

abbrev pub group_bytes : (kinds : List ℕ) → (names : List (List ℕ)) → List ℕ
group_bytes kinds names = tuple_letter ∷ bytes32 (length (groups kinds names)) ++ name_strings (groups kinds names)

abbrev pub part_written : Manner → (kinds plain : List ℕ) → Value → List ℕ
part_written as_value kinds plain v = plain
part_written as_names kinds plain v = names_bytes (members_of v)
part_written as_locals kinds plain v = group_bytes kinds (contents_all (members_of v))
part_written as_string kinds plain v = code_string (contents_of v)

unfoldable mutual
  pub written_as : Value → List ℕ
  written_as (single letter) = letter ∷ []
  written_as (integer z) = integer_bytes z
  written_as (float bits) = float_letter ∷ bytes64 bits
  written_as (complex real imaginary) = complex_letter ∷ bytes64 real ++ bytes64 imaginary
  written_as (bytes contents) = sized bytes_letter contents
  written_as (text contents) = sized unicode_letter contents
  written_as (sequence letter vs) = letter ∷ bytes32 (count_of vs) ++ written_all vs
  written_as (slice vs) = slice_letter ∷ written_all vs
  written_as (dict vs) = dict_letter ∷ written_all vs ++ null_letter ∷ []
  written_as (code numbers parts line tables) =
      code_letter ∷ words numbers ++ written_parts (contents_of (value_at parts kinds_part)) 0 parts ++ bytes32 line ++ written_all tables

  pub written_all : Values → List ℕ
  written_all nil = []
  written_all (more v vs) = written_as v ++ written_all vs

  pub written_parts : (kinds : List ℕ) → (i : ℕ) → Values → List ℕ
  written_parts kinds i nil = []
  written_parts kinds i (more v vs) = part_written (get_or manners i as_value) kinds (written_as v) v ++ written_parts kinds (i + 1) vs
