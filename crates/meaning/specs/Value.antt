-- A value, without the letter it was read from, its place, its interning or its sharing, so that 01's "the same value" is equality.
-- 01, 'Writing it back': "The same value means: same numbers, float bits, bytes and strings, same kind and sequence of children, code parts
-- alike with first line 0 or less as 0. Interning, sharing and integer, string or tuple letter do not count."
use Rattle.std.specs.Prelude.{ℕ, zero, suc, List, [], ◌∷◌}
use Rattle.writing.specs.Canonical.{Integer}

mutual
  pub data Value : Type 0 where
    -- none, a truth value, stop, ellipsis, by the letter that says which
    single : (letter : ℕ) → Value
    integer : Integer → Value
    float : (bits : ℕ) → Value
    complex : (real imaginary : ℕ) → Value
    bytes text : (contents : List ℕ) → Value
    -- tuple, list, set, frozenset, by the letter that each is written with
    sequence : (letter : ℕ) → Values → Value
    slice dict : Values → Value
    -- the five numbers, the eight parts before the first line, the first line, and the two tables after it
    code : (numbers : List ℕ) → (parts : Values) → (line : ℕ) → (tables : Values) → Value

  pub data Values : Type 0 where
    nil : Values
    more : Value → Values → Values

unfoldable pub count_of : Values → ℕ
count_of nil = 0
count_of (more v vs) = suc (count_of vs)

-- a value by its position; where there is none, a value that is nothing in particular
unfoldable pub value_at : Values → ℕ → Value
value_at nil i = single 0
value_at (more v vs) zero = v
value_at (more v vs) (suc i) = value_at vs i

-- the contents of bytes and of a string
unfoldable pub contents_of : Value → List ℕ
contents_of (single letter) = []
contents_of (integer z) = []
contents_of (float bits) = []
contents_of (complex real imaginary) = []
contents_of (bytes contents) = contents
contents_of (text contents) = contents
contents_of (sequence letter vs) = []
contents_of (slice vs) = []
contents_of (dict vs) = []
contents_of (code numbers parts line tables) = []

unfoldable pub contents_all : Values → List (List ℕ)
contents_all nil = []
contents_all (more v vs) = contents_of v ∷ contents_all vs

-- the members of a sequence
unfoldable pub members_of : Value → Values
members_of (single letter) = nil
members_of (integer z) = nil
members_of (float bits) = nil
members_of (complex real imaginary) = nil
members_of (bytes contents) = nil
members_of (text contents) = nil
members_of (sequence letter vs) = vs
members_of (slice vs) = nil
members_of (dict vs) = nil
members_of (code numbers parts line tables) = nil
