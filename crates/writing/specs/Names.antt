-- The order in which local names are written. 01, 'Writing it back': "Local names are written as all Local, then Cell whose name equals no
-- Local name, then Free; kinds as stored".
use Rattle.std.specs.Prelude.{ℕ, Bool, true, false, cond, ◌&&◌, ◌||◌, List, [], ◌∷◌, ◌++◌, eqb}
use Rattle.localsplus.specs.Kind.{local_bit, cell_bit, free_bit, has}
use Rattle.grammar.specs.Fields.{contents}
use Rattle.grammar.specs.Record.{Tables, node_of}

-- the bytes of a string's node, and of a bytes node
abbrev pub contents_of : Tables → ℕ → List ℕ
contents_of t v = contents t.input (node_of t v).place (node_of t v).size

unfoldable pub same_bytes : List ℕ → List ℕ → Bool
same_bytes [] [] = true
same_bytes [] (y ∷ ys) = false
same_bytes (x ∷ xs) [] = false
same_bytes (x ∷ xs) (y ∷ ys) = eqb x y && same_bytes xs ys

-- the names whose kind has a bit, in order
unfoldable pub having : (bit : ℕ) → (kinds names : List ℕ) → List ℕ
unfolding has
having bit [] names = []
having bit (kind ∷ kinds) [] = []
having bit (kind ∷ kinds) (name ∷ names) = cond (has bit kind) (name ∷ having bit kinds names) (having bit kinds names)

-- "equals no Local name": by their bytes
unfoldable pub named_in : Tables → List ℕ → List ℕ → Bool
unfolding same_bytes
named_in t name [] = false
named_in t name (v ∷ vs) = same_bytes name (contents_of t v) || named_in t name vs

unfoldable pub apart_from : Tables → (locals cells : List ℕ) → List ℕ
unfolding named_in
apart_from t locals [] = []
apart_from t locals (v ∷ vs) = cond (named_in t (contents_of t v) locals) (apart_from t locals vs) (v ∷ apart_from t locals vs)

unfoldable pub in_groups : Tables → (kinds names : List ℕ) → List ℕ
unfolding having apart_from
in_groups t kinds names =
    having local_bit kinds names ++ apart_from t (having local_bit kinds names) (having cell_bit kinds names) ++ having free_bit kinds names
