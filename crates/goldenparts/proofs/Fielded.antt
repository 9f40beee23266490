-- A golden in fields: its parts are those that its numbers name in the file; the ways out of `new_parts`. Assumes nothing.
use mathlib.Core.Path.{◌≡◌, refl, sym, ap, ◌∙◌}
use mathlib.Core.Bool.{true, ◌&&◌}
use mathlib.Core.List.{List, [], ◌∷◌}
use mathlib.Core.Option.{Option, none, some}
use Prim.Native.Nat.{ℕ, ◌+◌}
use native.Mathlib.Omega.{arith}
use lib.Dec.{eqb}
use borrow.Author.Tests.{eqb-true}
use Rattle.taggedfields.specs.Fields.{Field, reading, find}
use Rattle.taggedfields.proofs.Parts.{In, field_found, none-some}
use Rattle.grammar.specs.Reading.{Answer, gives, stops}
use Rattle.grammar.proofs.Tests.{both_true, cond-some, same_some}
use Rattle.readalone.specs.Alone.{Room}
use Rattle.refusals.specs.declared.Fault.{Fault}
use Rattle.goldenparts.specs.declared.Spans.{Spans}
use Rattle.goldenparts.specs.Forms.{Part, Golden, next, is_edition, only_one, part_of, golden_fields, or_other, or_fault, in_fields, both_read, new_parts}
use Rattle.goldenparts.specs.Spans.{span_of, spans_of, spanned, part_in, golden_in}

-- the three fields that a golden has
pub record Three (fs : List Field) (g : Golden) : Type 0 where
  pub edition : Field
  pub code : Field
  pub result : Field
  pub are : fs ≡ edition ∷ code ∷ result ∷ []
  pub first : edition.tag ≡ 1
  pub one : only_one edition.contents ≡ true
  pub second : code.tag ≡ 2
  pub third : result.tag ≡ 3
  pub golden : g ≡ record { code = part_of code; result = part_of result }

pub three : (fs : List Field) (g : Golden) → golden_fields fs ≡ some g → Three fs g
three [] g e = absurd (none-some e)
three (a ∷ []) g e = absurd (none-some e)
three (a ∷ b ∷ []) g e = absurd (none-some e)
three (a ∷ b ∷ c ∷ []) g e =
    let w = cond-some (is_edition a && (eqb b.tag 2 && eqb c.tag 3)) (some (record { code = part_of b; result = part_of c })) g e in
    let x = both_true (is_edition a) (eqb b.tag 2 && eqb c.tag 3) w.0 in
    let y = both_true (eqb a.tag 1) (only_one a.contents) x.0 in
    let z = both_true (eqb b.tag 2) (eqb c.tag 3) x.1 in
    record {
      edition = a;
      code = b;
      result = c;
      are = refl;
      first = eqb-true a.tag 1 y.0;
      one = y.1;
      second = eqb-true b.tag 2 z.0;
      third = eqb-true c.tag 3 z.1;
      golden = sym (same_some w.1);
    }
three (a ∷ b ∷ c ∷ d ∷ fs) g e = absurd (none-some e)

-- a field stands where its numbers say
field-part : (file : List ℕ) (f : Field) → In file f → part_in file (span_of (part_of f)) ≡ part_of f
field-part file f i = ap (λ (b : List ℕ). record { start = f.place + 3; bytes = b }) (sym i.part)

pub code_in : (file : List ℕ) (g : Golden) (t : Three (reading file).fields g) → In file t.code
unfolding find
code_in file g t =
    (field_found file 2 t.code (ap (find 2) t.are ∙ rw (t.first, t.second) refl)).0

pub result_in : (file : List ℕ) (g : Golden) (t : Three (reading file).fields g) → In file t.result
unfolding find
result_in file g t =
    (field_found file 3 t.result (ap (find 3) t.are ∙ rw (t.first, t.second, t.third) refl)).0

pub golden_parts : (file : List ℕ) (g : Golden) → golden_fields (reading file).fields ≡ some g → golden_in file (spans_of g) ≡ g
golden_parts file g e =
    let t = three (reading file).fields g e in
    let c = field-part file t.code (code_in file g t) in
    let r = field-part file t.result (result_in file g t) in
    ap (λ x. golden_in file (spans_of x)) t.golden
    ∙ ap (λ (p : Part). record { code = p; result = part_in file (span_of (part_of t.result)) }) c ∙ ap (λ (p : Part). record { code = part_of t.code; result = p }) r
    ∙ sym t.golden

-- a golden that is in fields
pub record Fielded (file : List ℕ) (g : Golden) : Type 0 where
  pub clean : (reading file).fault ≡ none
  pub fields : golden_fields (reading file).fields ≡ some g

gives-stops : {A X : Type 0} {a : A} {number place : ℕ} → stops number place ≡ gives a → X
gives-stops e = let z : ◌≡◌ {A = ℕ} 0 1 = cc in absurd (omega arith)

same_gives : {A : Type 0} {a b : A} → gives a ≡ gives b → a ≡ b
same_gives e = cc

pub fielded : (file : List ℕ) (g : Golden) → in_fields file ≡ gives g → Fielded file g
unfolding in_fields
fielded file g e = go (reading file).fault (golden_fields (reading file).fields) refl refl e
  where
    go : (o : Option Fault) (f : Option Golden) → (reading file).fault ≡ o → golden_fields (reading file).fields ≡ f → or_fault o (or_other f) ≡ gives g → Fielded file g
    go (some x) f p q z = gives-stops z
    go none none p q z = gives-stops z
    go none (some h) p q z = record { clean = p; fields = q ∙ ap some (same_gives z) }

-- ---- the ways out
module _ (R : Room) (file : List ℕ) where
  pub new_refused : {number place : ℕ} → stops number place ≡ spanned (in_fields file) → stops number place ≡ spanned (new_parts R file)
  unfolding new_parts
  new_refused {number} {place} e = go (in_fields file) e
    where
      go : (a : Answer Golden) → stops number place ≡ spanned a → stops number place ≡ spanned (next a (both_read R))
      go (gives g) z = gives-stops z
      go (stops n p) z = z

  pub new_value : {parts : Spans} {R' : Room} {t : Answer Spans} → gives parts ≡ spanned (in_fields file) → R' ≡ R → t ≡ spanned (both_read R' (golden_in file parts)) → t ≡ spanned (new_parts R file)
  unfolding new_parts
  new_value {parts} e same z = z ∙ ap (λ S. spanned (both_read S (golden_in file parts))) same ∙ go (in_fields file) refl e
    where
      go : (a : Answer Golden) → in_fields file ≡ a → gives parts ≡ spanned a → spanned (both_read R (golden_in file parts)) ≡ spanned (next a (both_read R))
      go (gives g) d y = ap (λ s. spanned (both_read R (golden_in file s))) (same_gives y) ∙ ap (λ h. spanned (both_read R h)) (golden_parts file g (fielded file g d).fields)
      go (stops n p) d y = gives-stops (sym y)
