-- What an answer of `look` says of the file, for those who call it. Assumes nothing.
use mathlib.Core.Path.{◌≡◌, refl, sym, ap, ◌∙◌}
use mathlib.Core.List.{List}
use mathlib.Core.Option.{Option, none, some}
use Prim.Native.Nat.{ℕ, ◌+◌, ◌-◌, ◌≤◌}
use native.Mathlib.Omega.{arith}
use lib.ListN.{length, take, drop}
use Rattle.std.specs.Prelude.{Ok, Err}
use Rattle.std.specs.Prelude as rust
use Rattle.refusals.specs.declared.Fault.{Fault}
use Rattle.taggedfields.specs.declared.Span.{Span}
use Rattle.taggedfields.specs.Fields.{Field, reading, field_in}
use Rattle.taggedfields.specs.Looking.{span_of, part_of, looked_as, looked}
use Rattle.taggedfields.proofs.Parts.{field_found}

-- a field, and that a part is where its contents stand
pub record Shown (file : List ℕ) (t : ℕ) (s : Span) : Type 0 where
  pub field : Field
  pub is : field_in file t ≡ some field
  pub whole : s ≡ span_of field

module _ (file : List ℕ) (t : ℕ) where
  pub says-fault : {x : Fault} → Err x ≡ looked file t → (reading file).fault ≡ some x
  unfolding looked
  says-fault {x} e = go (reading file).fault (field_in file t) e
    where
      go : (o : Option Fault) (f : Option Field) → Err x ≡ looked_as o f → o ≡ some x
      go none f q = absurd (cc)
      go (some y) f q = cc

  pub says_none : {a : rust.Option Span} → Ok a ≡ looked file t → (reading file).fault ≡ none
  unfolding looked
  says_none {a} e = go (reading file).fault (field_in file t) e
    where
      go : (o : Option Fault) (f : Option Field) → Ok a ≡ looked_as o f → o ≡ none
      go none f q = refl
      go (some x) f q = absurd (cc)

  pub says_absent : Ok rust.None ≡ looked file t → field_in file t ≡ none
  unfolding looked
  says_absent e = go (reading file).fault (field_in file t) e
    where
      go : (o : Option Fault) (f : Option Field) → Ok rust.None ≡ looked_as o f → f ≡ none
      go none none q = refl
      go none (some f) q = absurd (cc)
      go (some x) f q = absurd (cc)

  pub says-found : {s : Span} → Ok (rust.Some s) ≡ looked file t → Shown file t s
  unfolding looked
  says-found {s} e = go (reading file).fault (field_in file t) refl e
    where
      go : (o : Option Fault) (f : Option Field) → field_in file t ≡ f → Ok (rust.Some s) ≡ looked_as o f → Shown file t s
      go none none d q = absurd (cc)
      go none (some f) d q = record { field = f; is = d; whole = cc }
      go (some x) f d q = absurd (cc)

-- such a part is in the file, and has the contents
module _ {file : List ℕ} {t : ℕ} {s : Span} (w : Shown file t s) where
  pub shown_within : s.start + s.size ≤ length file
  shown_within = omega (arith, w.whole, (field_found file t w.field w.is).0.within, ap (λ (x : Span). x.start) w.whole, ap (λ (x : Span). x.size) w.whole)

  pub shown_part : part_of file s ≡ w.field.contents
  shown_part = ap (part_of file) w.whole ∙ sym (field_found file t w.field w.is).0.part
