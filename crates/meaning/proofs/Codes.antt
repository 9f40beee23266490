-- What `InOrder` asks of a value: that each of its codes keeps 01's name order, and nothing else. The codes of a value as a list, by
-- induction over values. Assumes nothing.
use mathlib.Core.Path.{◌≡◌}
use Prim.Native.Nat.{ℕ}
use mathlib.Core.Bool.{true}
use mathlib.Core.List.{List, [], ◌∷◌, ◌++◌}
use Rattle.grammar.specs.Steps.{locals_part, kinds_part}
use Rattle.meaning.specs.Value.{Value, Values, nil, more, single, integer, float, complex, bytes, text, sequence, slice, dict, code, value_at, contents_of, contents_all, members_of}
use Rattle.meaning.specs.Order.{name_order, InOrder, InOrderAll}

-- the kinds and the local names of a code
abbrev pub Locals : Type 0
Locals = List ℕ × List (List ℕ)

unfoldable mutual
  pub codes_of : Value → List Locals
  codes_of (single letter) = []
  codes_of (integer z) = []
  codes_of (float bits) = []
  codes_of (complex real imaginary) = []
  codes_of (bytes contents) = []
  codes_of (text contents) = []
  codes_of (sequence letter vs) = codes_all vs
  codes_of (slice vs) = codes_all vs
  codes_of (dict vs) = codes_all vs
  codes_of (code numbers parts line tables) =
      (contents_of (value_at parts kinds_part), contents_all (members_of (value_at parts locals_part))) ∷ codes_all parts ++ codes_all tables

  pub codes_all : Values → List Locals
  codes_all nil = []
  codes_all (more v vs) = codes_of v ++ codes_all vs

-- each keeps the name order
abbrev pub Kept : List Locals → Type 0
Kept [] = Unit
Kept (c ∷ cs) = (name_order c.0 c.1 ≡ true) × Kept cs

kept-both : (xs ys : List Locals) → Kept (xs ++ ys) → Kept xs × Kept ys
kept-both [] ys k = (tt, k)
kept-both (x ∷ xs) ys k = let r = kept-both xs ys k.1 in ((k.0, r.0), r.1)

both-kept : (xs ys : List Locals) → Kept xs → Kept ys → Kept (xs ++ ys)
both-kept [] ys k l = l
both-kept (x ∷ xs) ys k l = (k.0, both-kept xs ys k.1 l)

-- Enough ..
mutual
  unfolding codes_of InOrder

  pub kept_is_in_order : (v : Value) → Kept (codes_of v) → InOrder v
  kept_is_in_order (single letter) k = tt
  kept_is_in_order (integer z) k = tt
  kept_is_in_order (float bits) k = tt
  kept_is_in_order (complex real imaginary) k = tt
  kept_is_in_order (bytes contents) k = tt
  kept_is_in_order (text contents) k = tt
  kept_is_in_order (sequence letter vs) k = kept_all_in_order vs k
  kept_is_in_order (slice vs) k = kept_all_in_order vs k
  kept_is_in_order (dict vs) k = kept_all_in_order vs k
  kept_is_in_order (code numbers parts line tables) k =
      let r = kept-both (codes_all parts) (codes_all tables) k.1 in
      (k.0, kept_all_in_order parts r.0, kept_all_in_order tables r.1)

  kept_all_in_order : (vs : Values) → Kept (codes_all vs) → InOrderAll vs
  kept_all_in_order nil k = tt
  kept_all_in_order (more v vs) k = let r = kept-both (codes_of v) (codes_all vs) k in (kept_is_in_order v r.0, kept_all_in_order vs r.1)

-- .. and asked.
mutual
  unfolding codes_of InOrder

  pub in_order_is_kept : (v : Value) → InOrder v → Kept (codes_of v)
  in_order_is_kept (single letter) o = tt
  in_order_is_kept (integer z) o = tt
  in_order_is_kept (float bits) o = tt
  in_order_is_kept (complex real imaginary) o = tt
  in_order_is_kept (bytes contents) o = tt
  in_order_is_kept (text contents) o = tt
  in_order_is_kept (sequence letter vs) o = in_order_all_kept vs o
  in_order_is_kept (slice vs) o = in_order_all_kept vs o
  in_order_is_kept (dict vs) o = in_order_all_kept vs o
  in_order_is_kept (code numbers parts line tables) o =
      (o.0, both-kept (codes_all parts) (codes_all tables) (in_order_all_kept parts o.1) (in_order_all_kept tables o.2))

  in_order_all_kept : (vs : Values) → InOrderAll vs → Kept (codes_all vs)
  in_order_all_kept nil o = tt
  in_order_all_kept (more v vs) o = both-kept (codes_of v) (codes_all vs) (in_order_is_kept v o.0) (in_order_all_kept vs o.1)
