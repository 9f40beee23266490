-- No export and no promise rests on this page.
-- The local names of a code as the code goes through them: a chain of names, and the kinds that stand beside it.
-- 01, 'Writing it back': "Local names are written as all Local, then Cell whose name equals no Local name, then Free".
use Rattle.std.specs.Prelude.{◌≡◌, ℕ, ◌+◌, ◌≤◌, Bool, true, cond, not, ◌&&◌, List, [], ◌∷◌, length, eqb}
use Rattle.std.proofs.Math.Option.{Option, none, some}
use Rattle.localsplus.specs.Kind.{local_bit, cell_bit, has}
use Rattle.grammar.specs.Fields.{contents}
use Rattle.grammar.specs.State.{node_at}
use Rattle.grammar.specs.Record.{Tables, chain, bad_string}
use Rattle.writing.specs.Names.{contents_of, same_bytes, having, named_in}
use Rattle.cellnames.specs.declared.Locals.{Locals}
use Rattle.chains.specs.Chained.{is_some}

abbrev pub or_none : Option (List ℕ) → List ℕ
or_none none = []
or_none (some vs) = vs

abbrev pub names_in : Tables → Locals → List ℕ
names_in t l = or_none (chain t l.count l.first)

abbrev pub kinds_in : Tables → Locals → List ℕ
kinds_in t l = contents t.input l.kinds l.count

-- the names of kind Local
abbrev pub locals_in : Tables → Locals → List ℕ
locals_in t l = having local_bit (kinds_in t l) (names_in t l)

-- a string, and a part of the input, are the same
abbrev pub same_as : (s nodes : List ℕ) → (name place size : ℕ) → Bool
same_as s nodes v place size = same_bytes (contents s place size) (contents s (node_at nodes v).place (node_at nodes v).size)

-- "equals no Local name": whether a name equals one
abbrev pub is_local : Tables → Locals → ℕ → Bool
is_local t l v = named_in t (contents_of t v) (locals_in t l)

-- whether a name of a kind stands in a group: of the cells, those whose name equals no Local name
abbrev pub in_group : Tables → (locals : List ℕ) → (bit kind name : ℕ) → Bool
in_group t locals bit kind v = has bit kind && not (eqb bit cell_bit && named_in t (contents_of t v) locals)

abbrev pub is_member : Tables → Locals → (bit kind name : ℕ) → Bool
is_member t l = in_group t (locals_in t l)

unfoldable pub group_from : Tables → (locals : List ℕ) → (bit : ℕ) → (kinds names : List ℕ) → List ℕ
group_from t locals bit [] names = []
group_from t locals bit (kind ∷ kinds) [] = []
group_from t locals bit (kind ∷ kinds) (name ∷ names) =
    cond (in_group t locals bit kind name) (name ∷ group_from t locals bit kinds names) (group_from t locals bit kinds names)

abbrev pub group_in : Tables → Locals → (bit : ℕ) → List ℕ
group_in t l bit = group_from t (locals_in t l) bit (kinds_in t l) (names_in t l)

-- the chain is whole, its names are sound strings, and the kinds lie in the input
pub record Listed (t : Tables) (l : Locals) : Type 0 where
  pub chained : is_some (chain t l.count l.first) ≡ true
  pub fine : bad_string t (names_in t l) ≡ none
  pub kinds : l.kinds + l.count ≤ length t.input
