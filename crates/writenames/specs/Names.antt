-- No export and no promise rests on this page.
-- What is asked of names, as a code has tested them, and their writings: the names of a chain, a tuple of names, and the tuple of local names.
-- 01, 'Writing it back': "Code strings are `z` if ASCII and under 256 bytes, else `u`."
use Rattle.std.specs.Prelude.{◌≡◌, ℕ, ◌+◌, ◌≤◌, true, length}
use Rattle.std.proofs.Math.Option.{none}
use Rattle.grammar.specs.Steps.{as_names}
use Rattle.grammar.specs.Record.{Tables, node_of, chain, whole, suited, bad_string}
use Rattle.writing.specs.Writing.{Writing, each}
use Rattle.writing.specs.Names.{contents_of, in_groups}
use Rattle.writing.specs.Steps.{string_part, names_part, kids_of}
use Rattle.chains.specs.Chained.{is_some}
use Rattle.underway.specs.Rows.{kids_from}

-- a chain is whole, and its children are sound strings
abbrev pub Chained : Tables → (count first : ℕ) → Type 0
Chained t count first = is_some (chain t count first) ≡ true

abbrev pub Spelt : Tables → (count first : ℕ) → Type 0
Spelt t count first = bad_string t (kids_from t count first) ≡ none

-- a part is a sound tuple of sound strings
abbrev pub Tuples : Tables → ℕ → Type 0
Tuples t v = suited t as_names v (whole t v) ≡ none

-- local names and their kinds, as a code has tested them
pub record Localed (t : Tables) (kinds node : ℕ) : Type 0 where
  pub tuple : Tuples t node
  pub within : (node_of t kinds).place + (node_of t kinds).size ≤ length t.input
  pub even : (node_of t kinds).size ≡ (node_of t node).count

abbrev pub names_from : Tables → (allowance count first : ℕ) → Writing
names_from t a count first = each (string_part t a) (kids_from t count first)

abbrev pub names_of : Tables → (allowance node : ℕ) → Writing
names_of t a v = names_part t a v (kids_of t v)

-- the kinds stand in a node of their own
abbrev pub locals_of : Tables → (allowance kinds node : ℕ) → Writing
locals_of t a kinds v = names_part t a v (in_groups t (contents_of t kinds) (kids_of t v))
