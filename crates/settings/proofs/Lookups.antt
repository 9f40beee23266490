-- The answers of a lookup: each way out of `find_setting`, and the part that `lookup` returns. Assumes nothing.
use mathlib.Core.Path.{◌≡◌, refl, sym, ap, ◌∙◌, subst}
use mathlib.Core.List.{List, []}
use mathlib.Core.Option.{Option, none, some}
use Prim.Native.Nat.{ℕ, ◌+◌, ◌-◌, ◌≤◌}
use native.Mathlib.Omega.{arith}
use lib.ListN.{length, take, drop}
use Rattle.std.specs.Prelude.{Ok, Err}
use Rattle.std.specs.Prelude as rust
use Rattle.refusals.specs.declared.Fault.{Fault}
use Rattle.refusals.specs.declared.Refusal.TheVariants.{NoSuchField}
use Rattle.refusals.specs.Faults.{refused}
use Rattle.taggedfields.specs.declared.Span.{Span}
use Rattle.taggedfields.specs.Fields.{Field, reading, field_in}
use Rattle.taggedfields.specs.Looking.{span_of, looked}
use Rattle.taggedfields.proofs.Parts.{field_found}
use Rattle.taggedfields.proofs.Answers.{says-fault, says_none, says_absent, says-found}
use Rattle.settings.specs.declared.Origin.{Origin}
use Rattle.settings.specs.declared.Origin.TheVariants as origin
use Rattle.settings.specs.declared.Setting.{Setting}
use Rattle.settings.specs.Setting.{found_in, setting_from, setting_of, file_of, contents_from, contents_of}

module _ (own fallback : List ℕ) (t : ℕ) where
  pub own_fault : {x : Fault} → Err x ≡ looked own t → Err x ≡ setting_of own fallback t
  unfolding setting_of
  own_fault e = rw (says-fault own t e) refl

  module _ {a : rust.Option Span} (e : Ok a ≡ looked own t) where
    pub default_fault : {x : Fault} → Err x ≡ looked fallback t → Err x ≡ setting_of own fallback t
    unfolding setting_of
    default_fault d = rw (says_none own t e, says-fault fallback t d) refl

  pub own_found : {s : Span} {b : rust.Option Span} → Ok (rust.Some s) ≡ looked own t → Ok b ≡ looked fallback t
      → Ok (record { origin = origin.Override; contents = s }) ≡ setting_of own fallback t
  unfolding setting_of
  own_found e d =
      let f = says-found own t e in
      let all : setting_of own fallback t ≡ found_in origin.Override f.field = rw (says_none own t e, says_none fallback t d, f.is) refl in
      ap (λ (x : Span). Ok (record { origin = origin.Override; contents = x })) f.whole ∙ sym all

  pub default_found : {s : Span} → Ok rust.None ≡ looked own t → Ok (rust.Some s) ≡ looked fallback t
      → Ok (record { origin = origin.Default; contents = s }) ≡ setting_of own fallback t
  unfolding setting_of
  default_found e d =
      let f = says-found fallback t d in
      let all : setting_of own fallback t ≡ found_in origin.Default f.field =
      rw (says_none own t e, says_none fallback t d, says_absent own t e, f.is) refl in
      ap (λ (x : Span). Ok (record { origin = origin.Default; contents = x })) f.whole ∙ sym all

  pub in_neither : Ok rust.None ≡ looked own t → Ok rust.None ≡ looked fallback t → refused NoSuchField 0 ≡ setting_of own fallback t
  unfolding setting_of
  in_neither e d = rw (says_none own t e, says_none fallback t d, says_absent own t e, says_absent fallback t d) refl

-- ---- what an answer says of the contents
-- the part of a file where an answer says that it is
pub record Part (s : Span) (file wanted : List ℕ) : Type 0 where
  pub within : s.start + s.size ≤ length file
  pub same : take s.size (drop s.start file) ≡ wanted

part-of : (file : List ℕ) (t : ℕ) (f : Field) → field_in file t ≡ some f → Part (span_of f) file f.contents
part-of file t f e = let i = (field_found file t f e).0 in record { within = i.within; same = sym i.part }

-- refused: no bytes
pub says_refused : (own fallback : List ℕ) (t : ℕ) {x : Fault} → Err x ≡ setting_of own fallback t → [] ≡ contents_of own fallback t
unfolding setting_of contents_of
says_refused own fallback t {x} e = go (reading own).fault (reading fallback).fault (field_in own t) (field_in fallback t) e
  where
    go : (o d : Option Fault) (f g : Option Field) → Err x ≡ setting_from o d f g → [] ≡ contents_from o d f g
    go (some y) d f g q = refl
    go none (some y) f g q = refl
    go none none (some f) g q = absurd (cc)
    go none none none (some g) q = absurd (cc)
    go none none none none q = refl

-- a part of the file that the answer names
pub says : (own fallback : List ℕ) (t : ℕ) {s : Setting} → Ok s ≡ setting_of own fallback t → Part s.contents (file_of s.origin own fallback) (contents_of own fallback t)
unfolding setting_of contents_of
says own fallback t {s} e = go (reading own).fault (reading fallback).fault (field_in own t) (field_in fallback t) refl refl e
  where
    go : (o d : Option Fault) (f g : Option Field) → field_in own t ≡ f → field_in fallback t ≡ g → Ok s ≡ setting_from o d f g
        → Part s.contents (file_of s.origin own fallback) (contents_from o d f g)
    go (some y) d f g u v q = absurd (cc)
    go none (some y) f g u v q = absurd (cc)
    go none none (some f) g u v q =
        let same : s ≡ record { origin = origin.Override; contents = span_of f } = cc in
        subst (λ (r : Setting). Part r.contents (file_of r.origin own fallback) f.contents) (sym same) (part-of own t f u)
    go none none none (some g) u v q =
        let same : s ≡ record { origin = origin.Default; contents = span_of g } = cc in
        subst (λ (r : Setting). Part r.contents (file_of r.origin own fallback) g.contents) (sym same) (part-of fallback t g v)
    go none none none none u v q = absurd (cc)

pub says_in : (own fallback : List ℕ) (t : ℕ) {s : Setting} (o : Origin) → Ok s ≡ setting_of own fallback t → s.origin ≡ o
    → Part s.contents (file_of o own fallback) (contents_of own fallback t)
says_in own fallback t {s} o e q = subst (λ r. Part s.contents (file_of r own fallback) (contents_of own fallback t)) q (says own fallback t e)
