-- A value in name order is written as its canonical bytes, by induction on the value; the local names of a code are the one place where the
-- order matters. Assumes nothing.
use mathlib.Core.Path.{◌≡◌, refl, sym, ap, ap₂, ◌∙◌}
use Prim.Native.Nat.{ℕ, zero, suc, ◌+◌}
use native.Mathlib.Omega.{arith}
use mathlib.Core.Bool.{true}
use mathlib.Core.List.{List, [], ◌∷◌, ◌++◌}
use lib.ListN.{length, get_or}
use Rattle.grammar.specs.Arguments.{argument_sum}
use Rattle.grammar.specs.Steps.{code_part, kinds_part, locals_part}
use Rattle.writing.specs.Canonical.{bytes32, words}
use Rattle.writing.specs.Steps as writer
use Rattle.writing.specs.Steps.{Manner, as_value, as_locals, manners}
use Rattle.meaning.specs.Value.{Value, Values, nil, more, single, integer, float, complex, bytes, text, sequence, slice, dict, code, count_of, value_at, contents_of, contents_all, members_of}
use Rattle.meaning.specs.Canonical.{part_bytes, canonical, canonical_all, canonical_parts}
use Rattle.meaning.specs.Order.{name_order, InOrder, InOrderAll}
use Rattle.meaning.specs.Proper.{ProperCode, Proper, ProperAll}
use Rattle.meaning.specs.Written.{part_written, written_as, written_all, written_parts}
use Rattle.meaning.proofs.Names.{in_order-in_groups}
use Rattle.meaning.proofs.TheoremC.{faultless, contents-count, names-strings}

number_of : Manner → ℕ
number_of as_value = 0
number_of writer.as_names = 1
number_of as_locals = 2
number_of writer.as_string = 3

locals-third : (i : ℕ) → number_of (get_or manners i as_value) ≡ 2 → i ≡ locals_part
unfolding manners number_of
locals-third zero e = absurd (omega (arith, e))
locals-third (suc zero) e = absurd (omega (arith, e))
locals-third (suc (suc zero)) e = absurd (omega (arith, e))
locals-third (suc (suc (suc zero))) e = refl
locals-third (suc (suc (suc (suc zero)))) e = absurd (omega (arith, e))
locals-third (suc (suc (suc (suc (suc zero))))) e = absurd (omega (arith, e))
locals-third (suc (suc (suc (suc (suc (suc zero)))))) e = absurd (omega (arith, e))
locals-third (suc (suc (suc (suc (suc (suc (suc zero))))))) e = absurd (omega (arith, e))
locals-third (suc (suc (suc (suc (suc (suc (suc (suc zero)))))))) e = absurd (omega (arith, e))
locals-third (suc (suc (suc (suc (suc (suc (suc (suc (suc zero))))))))) e = absurd (omega (arith, e))
locals-third (suc (suc (suc (suc (suc (suc (suc (suc (suc (suc i)))))))))) e = absurd (omega (arith, e))

-- the local names are in order wherever they stand
abbrev Ordered : List ℕ → Value → Type 0
Ordered kinds v = (length kinds ≡ count_of (members_of v)) × (name_order kinds (contents_all (members_of v)) ≡ true)

abbrev OrderFrom : List ℕ → ℕ → Values → Type 0
OrderFrom kinds i nil = Unit
OrderFrom kinds i (more v vs) = (get_or manners i as_value ≡ as_locals → Ordered kinds v) × OrderFrom kinds (i + 1) vs

order_from : (kinds : List ℕ) (i : ℕ) (vs : Values) → ((j : ℕ) → i + j ≡ locals_part → Ordered kinds (value_at vs j)) → OrderFrom kinds i vs
unfolding value_at number_of
order_from kinds i nil h = tt
order_from kinds i (more v vs) h = (
  (λ e. let z = locals-third i (ap number_of e) in h 0 (omega (arith, z))),
  order_from kinds (i + 1) vs (λ j e. h (suc j) (omega (arith, e))),
)

code-order : (numbers : List ℕ) (parts : Values) (line : ℕ) (tables : Values) → ProperCode numbers parts line tables
    → name_order (contents_of (value_at parts kinds_part)) (contents_all (members_of (value_at parts locals_part))) ≡ true → OrderFrom (contents_of (value_at parts kinds_part)) 0 parts
code-order numbers parts line tables p o =
    let fl =
    faultless (argument_sum (get_or numbers 0 0) (get_or numbers 2 0) (get_or numbers 4 0)) (length (contents_of (value_at parts code_part))) (count_of (members_of (value_at parts locals_part)))
    (length (contents_of (value_at parts kinds_part))) p.no_fault in
    order_from (contents_of (value_at parts kinds_part)) 0 parts
    (λ j e.
    let z : j ≡ locals_part = omega (arith, e) in
    rw z (sym fl.alike, o))

part_same : (m : Manner) (kinds : List ℕ) (v : Value) → (m ≡ as_locals → Ordered kinds v) → written_as v ≡ canonical v → part_written m kinds (written_as v) v ≡ part_bytes m (canonical v) v
part_same as_value kinds v o e = e
part_same writer.as_names kinds v o e = refl
part_same as_locals kinds v o e =
    let q = o refl in
    let vs = members_of v in
    let g = in_order-in_groups kinds (contents_all vs) (q.0 ∙ sym (contents-count vs)) q.1 in
    rw (g, contents-count vs, names-strings vs) refl
part_same writer.as_string kinds v o e = refl

mutual
  unfolding written_as canonical InOrder Proper

  pub in_order_same : (v : Value) → Proper v → InOrder v → written_as v ≡ canonical v
  in_order_same (single letter) p o = refl
  in_order_same (integer z) p o = refl
  in_order_same (float bits) p o = refl
  in_order_same (complex real imaginary) p o = refl
  in_order_same (bytes contents) p o = refl
  in_order_same (text contents) p o = refl
  in_order_same (sequence letter vs) p o = ap (λ z. letter ∷ bytes32 (count_of vs) ++ z) (all_same vs p.2 o)
  in_order_same (slice vs) p o = ap (λ z. 0x3A ∷ z) (all_same vs p.1 o)
  in_order_same (dict vs) p o = ap (λ z. 0x7B ∷ z ++ 0x30 ∷ []) (all_same vs p.1 o)
  in_order_same (code numbers parts line tables) p o =
      ap₂ (λ y z. 0x63 ∷ words numbers ++ y ++ bytes32 line ++ z)
      (parts_same parts 0 (contents_of (value_at parts kinds_part)) p.1 o.1 (code-order numbers parts line tables p.0 o.0)) (all_same tables p.2 o.2)

  all_same : (vs : Values) → ProperAll vs → InOrderAll vs → written_all vs ≡ canonical_all vs
  all_same nil p o = refl
  all_same (more v vs) p o = ap₂ (λ y z. y ++ z) (in_order_same v p.0 o.0) (all_same vs p.1 o.1)

  parts_same : (vs : Values) (i : ℕ) (kinds : List ℕ) → ProperAll vs → InOrderAll vs → OrderFrom kinds i vs → written_parts kinds i vs ≡ canonical_parts i vs
  parts_same nil i kinds p o of = refl
  parts_same (more v vs) i kinds p o of =
      ap₂ (λ y z. y ++ z) (part_same (get_or manners i as_value) kinds v of.0 (in_order_same v p.0 o.0)) (parts_same vs (i + 1) kinds p.1 o.1 of.1)
