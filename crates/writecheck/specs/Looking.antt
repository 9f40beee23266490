-- No export and no promise rests on this page.
-- The record test of a node with its chain, and of a code with its parts, as the code answers it. 01, 'Writing it back': "16 is given exactly
-- when ..".
use Rattle.std.specs.Prelude.{◌≡◌, ℕ, zero, suc, ◌%◌, Bool, true, false, ◌&&◌, List, eqb}
use Rattle.std.proofs.Math.Option.{some}
use Rattle.grammar.specs.State.{node_at, entry_at}
use Rattle.grammar.specs.Steps.{Rule, rules, code_parts, as_names}
use Rattle.grammar.specs.Record.{Tables, tables_of, holds, faulty, look, chain, node_of, whole, suited, bad_part}
use Rattle.chains.specs.Chained.{is_none, string_at}
use Rattle.writecheck.specs.declared.lending.Used.{Used}
use Rattle.writecheck.specs.declared.lending.Lent.{Lent}

-- the stores that are lent
abbrev pub lent : (input nodes entries : List ℕ) → Used → Tables
lent input nodes entries used = tables_of input nodes entries used.nodes used.entries

-- the same of what the code hands on as one, and whether a node of it is a sound string
abbrev pub lent_of : Lent → Tables
lent_of l = lent l.input.now l.nodes.now l.entries.now l.used

abbrev pub StringAt : Lent → ℕ → Type 0
StringAt l v = string_at l.input.now l.nodes.now l.used.nodes v ≡ true

-- a part of a code is what a rule asks
abbrev pub fits : Tables → Rule → ℕ → Bool
fits t rule v = is_none (suited t rule v (whole t v))

-- a sound node has these children, which are its chain; a faulty one is refused at its own number
pub record Held (t : Tables) (n : ℕ) : Type 0 where
  pub kids : List ℕ
  pub holds-kids : look t n ≡ holds kids
  pub chained : chain t (node_of t n).count (node_of t n).first ≡ some kids

abbrev pub Looks : Tables → ℕ → Bool → Type 0
Looks t n true = Held t n
Looks t n false = look t n ≡ faulty n

-- whether the ten parts of a code are what their rules ask
pub record Parts (t : Tables) (first : ℕ) (r : Bool) : Type 0 where
  pub tells : (parts : List ℕ) → chain t code_parts first ≡ some parts → r ≡ is_none (bad_part t rules parts)

-- whether a tuple's children are
pub record NamesFit (t : Tables) (node : ℕ) (r : Bool) : Type 0 where
  pub tells : (kids : List ℕ) → whole t node ≡ some kids → r ≡ is_none (suited t as_names node (some kids))

-- the entry so many links on
unfoldable pub after : (entries : List ℕ) → (links e : ℕ) → ℕ
after entries zero e = e
after entries (suc more) e = after entries more (entry_at entries e).next

-- the node of a part, by its place in the chain
abbrev pub part_of : (entries : List ℕ) → (first part : ℕ) → ℕ
part_of entries first part = (entry_at entries (after entries part first)).child

-- "local names and kinds of unequal length"; "an odd number of code bytes"
abbrev pub evenly : (nodes : List ℕ) → (code locals kinds : ℕ) → Bool
evenly nodes code locals kinds = eqb (node_at nodes locals).count (node_at nodes kinds).size && eqb ((node_at nodes code).size % 2) 0
