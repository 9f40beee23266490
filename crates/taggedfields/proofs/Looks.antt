-- The answers of `look`: a fault, no field, or the part where the field stands. Assumes nothing.
use mathlib.Core.Path.{◌≡◌, refl, sym, ap, ◌∙◌}
use mathlib.Core.List.{List}
use mathlib.Core.Option.{Option, none, some}
use Prim.Native.Nat.{ℕ, ◌+◌, ◌-◌, ◌≤◌, ◌<◌}
use native.Mathlib.Omega.{arith}
use lib.ListN.{length, get_or}
use Rattle.std.specs.Prelude.{Ok, Err}
use Rattle.std.specs.Prelude as rust
use Rattle.refusals.specs.declared.Fault.{Fault}
use Rattle.taggedfields.specs.declared.Span.{Span}
use Rattle.taggedfields.specs.Fields.{Field, reading, field_in}
use Rattle.taggedfields.specs.Looking.{told, fault_of, placed, spanned, looked}
use Rattle.taggedfields.specs.Looking.{size_in}
use Rattle.taggedfields.proofs.Parts.{In, field_found}

module _ (file : List ℕ) (t : ℕ) where
  -- no byte is above 255
  pub look-beyond : ((i : ℕ) → get_or file i 0 < 256) → 255 < t → field_in file t ≡ none
  look-beyond b h = go (field_in file t) refl
    where
      go : (o : Option Field) → field_in file t ≡ o → o ≡ none
      go none q = refl
      go (some f) q = absurd (let p = field_found file t f q in omega (arith, p.0.tag, p.1, b f.place))

  pub not_placed : {place : ℕ} → place ≡ placed (field_in file t) → place ≡ 0 → field_in file t ≡ none
  not_placed {place} p k = go (field_in file t) (sym p ∙ k)
    where
      go : (o : Option Field) → placed o ≡ 0 → o ≡ none
      go none q = refl
      go (some f) q = absurd (omega arith)

  -- a noted place is that of a field
  pub noted : {place : ℕ} → place ≡ placed (field_in file t) → (place ≡ 0 → ⊥) → (f : Field) × (field_in file t ≡ some f) × (place ≡ f.place + 1) × In file f
  noted {place} p k = go (field_in file t) refl
    where
      go : (o : Option Field) → field_in file t ≡ o → (f : Field) × (field_in file t ≡ some f) × (place ≡ f.place + 1) × In file f
      go none q = absurd (k (p ∙ ap placed q))
      go (some f) q = (f, q, p ∙ ap placed q, (field_found file t f q).0)

  pub noted_within : {place : ℕ} → place ≡ placed (field_in file t) → (place ≡ 0 → ⊥) → (0 < place) × (place + 2 ≤ length file)
  noted_within {place} p k = let n = noted p k in (omega (arith, n.2), omega (arith, n.2, n.3.within))

  pub found_there : {place size : ℕ} → place ≡ placed (field_in file t) → (place ≡ 0 → ⊥) → size ≡ size_in file (place - 1)
      → rust.Some (record { start = place + 2; size = size }) ≡ spanned (field_in file t)
  found_there {place} {size} p k s =
      let n = noted p k in
      let f = n.0 in
      let a : place - 1 ≡ f.place = omega (arith, n.2) in
      let b : place + 2 ≡ f.place + 3 = omega (arith, n.2) in
      let l : size ≡ length f.contents = s ∙ ap (size_in file) a ∙ sym n.3.size in
      rw (n.1, b, l) refl

-- an answer of the walk without a fault, and one with its fault
pub no_fault : (file : List ℕ) → Ok tt ≡ fault_of file → (reading file).fault ≡ none
no_fault file e = go (reading file).fault e
  where
    go : (o : Option Fault) → Ok tt ≡ told o → o ≡ none
    go none q = refl
    go (some x) q = absurd (cc)

pub its_fault : (file : List ℕ) {x : Fault} → Err x ≡ fault_of file → (reading file).fault ≡ some x
its_fault file {x} e = go (reading file).fault e
  where
    go : (o : Option Fault) → Err x ≡ told o → o ≡ some x
    go none q = absurd (cc)
    go (some y) q = cc

-- each way out of `look`
module _ (file : List ℕ) (t : ℕ) where
  pub look-fault : {x : Fault} → Err x ≡ fault_of file → Err x ≡ looked file t
  unfolding looked
  look-fault e = rw (its_fault file e) refl

  pub look-field : {s : rust.Option Span} → Ok tt ≡ fault_of file → s ≡ spanned (field_in file t) → Ok s ≡ looked file t
  unfolding looked
  look-field e d = rw (no_fault file e, d) refl
