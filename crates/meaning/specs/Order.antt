-- 01's name order. 01, 'Writing it back': "Name order kept: each kind is Local (with or without Cell), Cell alone or Free alone, other bits
-- aside, in three groups in that order, and no Cell-alone name equals a Local one."
use Rattle.std.specs.Prelude.{◌≡◌, ℕ, Bool, true, false, cond, not, ◌&&◌, ◌||◌, List, [], ◌∷◌}
use Rattle.localsplus.specs.Kind.{local_bit, cell_bit, free_bit, has}
use Rattle.grammar.specs.Steps.{locals_part, kinds_part}
use Rattle.writing.specs.Names.{same_bytes}
use Rattle.meaning.specs.Value.{Value, Values, nil, more, single, integer, float, complex, bytes, text, sequence, slice, dict, code, value_at, contents_of, contents_all, members_of}

-- "Local (with or without Cell)"
abbrev pub is_local : ℕ → Bool
is_local kind = has local_bit kind && not (has free_bit kind)

-- "Cell alone"
abbrev pub is_cell : ℕ → Bool
is_cell kind = not (has local_bit kind) && has cell_bit kind && not (has free_bit kind)

-- "Free alone"
abbrev pub is_free : ℕ → Bool
is_free kind = not (has local_bit kind) && not (has cell_bit kind) && has free_bit kind

abbrev pub is_equal_to : List ℕ → List (List ℕ) → Bool
is_equal_to name [] = false
is_equal_to name (other ∷ others) = same_bytes name other || is_equal_to name others

-- "three groups in that order": the last, the last two, and all three; `locals` are the names of the first
unfoldable pub frees : List ℕ → Bool
frees [] = true
frees (kind ∷ kinds) = is_free kind && frees kinds

unfoldable pub cells_then_frees : (locals : List (List ℕ)) → (kinds : List ℕ) → (names : List (List ℕ)) → Bool
cells_then_frees locals [] names = true
cells_then_frees locals (kind ∷ kinds) [] = false
cells_then_frees locals (kind ∷ kinds) (name ∷ names) =
    cond (is_cell kind) (not (is_equal_to name locals) && cells_then_frees locals kinds names) (frees (kind ∷ kinds))

-- the names of the Local kinds
unfoldable pub local_names : (kinds : List ℕ) → (names : List (List ℕ)) → List (List ℕ)
local_names [] names = []
local_names (kind ∷ kinds) [] = []
local_names (kind ∷ kinds) (name ∷ names) = cond (is_local kind) (name ∷ local_names kinds names) (local_names kinds names)

unfoldable pub grouped : (locals : List (List ℕ)) → (kinds : List ℕ) → (names : List (List ℕ)) → Bool
grouped locals [] names = true
grouped locals (kind ∷ kinds) [] = false
grouped locals (kind ∷ kinds) (name ∷ names) =
    cond (is_local kind) (grouped locals kinds names) (cells_then_frees locals (kind ∷ kinds) (name ∷ names))

unfoldable pub name_order : (kinds : List ℕ) → (names : List (List ℕ)) → Bool
name_order kinds names = grouped (local_names kinds names) kinds names

-- every code of a value keeps the name order
unfoldable mutual
  pub InOrder : Value → Type 0
  InOrder (single letter) = Unit
  InOrder (integer z) = Unit
  InOrder (float bits) = Unit
  InOrder (complex real imaginary) = Unit
  InOrder (bytes contents) = Unit
  InOrder (text contents) = Unit
  InOrder (sequence letter vs) = InOrderAll vs
  InOrder (slice vs) = InOrderAll vs
  InOrder (dict vs) = InOrderAll vs
  InOrder (code numbers parts line tables) =
      (name_order (contents_of (value_at parts kinds_part)) (contents_all (members_of (value_at parts locals_part))) ≡ true) × InOrderAll parts × InOrderAll tables

  pub InOrderAll : Values → Type 0
  InOrderAll nil = Unit
  InOrderAll (more v vs) = InOrder v × InOrderAll vs
