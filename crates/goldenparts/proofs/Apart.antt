-- Each form taken apart: the ways out of the functions that read the two values, by the readings in front of them. Assumes nothing.
use mathlib.Core.Path.{◌≡◌, refl, sym, ap, subst, ◌∙◌}
use mathlib.Core.Bool.{Bool, true, false, cond}
use mathlib.Core.List.{List}
use mathlib.Core.Option.{Option, none, some}
use Prim.Native.Nat.{ℕ, ◌+◌, ◌-◌, ◌≤◌, ◌<◌}
use native.Mathlib.Omega.{arith}
use lib.Dec.{ltb}
use lib.ListN.{length, take, drop, length-drop}
use lib.Seq.{take-length}
use Rattle.refusals.specs.Numbers.{bad_type, trailing_bytes}
use Rattle.taggedfields.specs.Fields.{reading}
use Rattle.taggedfields.specs.Looking.{told, fault_of, part_of}
use Rattle.std.specs.Prelude.{Err}
use Rattle.std.specs.Prelude as rust
use Rattle.std.specs.Option.{ok_or}
use Rattle.refusals.specs.declared.Refusal.TheVariants.{NoSuchField}
use Rattle.grammar.specs.Numbered.{numbered}
use Rattle.refusals.specs.declared.Fault.{Fault}
use Rattle.refusals.specs.Faults.{number_of, fault}
use Rattle.taggedfields.proofs.Looks.{its_fault}
use Rattle.grammar.specs.Reading.{Answer, gives, stops}
use Rattle.readalone.specs.Alone.{Room, alone}
use Rattle.readalone.proofs.Placing.{Ended, alone-ends}
use Rattle.taggedfields.specs.declared.Span.{Span}
use Rattle.goldenparts.specs.declared.Spans.{Spans}
use Rattle.goldenparts.specs.Forms.{Golden, next, is_code, judged, result_read, cut_at, old_parts, golden_fields, or_other, or_fault, in_fields, both_read}
use Rattle.goldenparts.specs.Spans.{spans_of, spanned, spans_if, part_in, golden_in, Standing, StandingIn, StandingIf}
use Rattle.goldenparts.proofs.Judging.{part_length}

-- what a part is read from
same_part : (R : Room) (file : List ℕ) (s : Span) {part : List ℕ} → part ≡ part_of file s → {a : Answer ℕ} → a ≡ alone R s.start part → a ≡ alone R s.start (part_in file s).bytes
same_part R file s p e = e ∙ ap (alone R s.start) p

-- ---- the result
module _ (R : Room) (file : List ℕ) (parts : Spans) (code : ℕ) {part : List ℕ} (p : part ≡ part_of file parts.result) where
  pub result-refused : {number place : ℕ} → stops number place ≡ alone R parts.result.start part → stops number place ≡ spanned (result_read R (golden_in file parts) code)
  unfolding result_read
  result-refused e = ap (λ a. spanned (next a (judged (golden_in file parts) code))) (same_part R file parts.result p e)

  pub result_value : {size : ℕ} {t : Answer Spans} → gives size ≡ alone R parts.result.start part → t ≡ spanned (judged (golden_in file parts) code size)
      → t ≡ spanned (result_read R (golden_in file parts) code)
  unfolding result_read
  result_value e z = z ∙ ap (λ a. spanned (next a (judged (golden_in file parts) code))) (same_part R file parts.result p e)

-- ---- the old form
abbrev pub old_spans : ℕ → ℕ → Spans
old_spans code size = record { code = record { start = 0; size = code }; result = record { start = code; size = size } }

pub old_standing : (file : List ℕ) (code : ℕ) → Ended file code → Standing (length file) (old_spans code (length file - code)) × (0 < code)
old_standing file code e = (
  record {
    code_in = omega (arith, e.inside);
    result_in = omega (arith, e.inside);
    code_start = omega arith;
    code-size = omega (arith, e.inside, e.small);
    result_start = omega (arith, e.inside, e.small);
    result-size = omega (arith, e.inside, e.small);
  },
  e.some_bytes,
)

old_golden : (file : List ℕ) (code : ℕ) → golden_in file (old_spans code (length file - code)) ≡ cut_at file code
old_golden file code =
    let e : take (length file - code) (drop code file) ≡ drop code file = ap (λ n. take n (drop code file)) (sym (length-drop code file)) ∙ take-length (drop code file) in
    ap (λ (b : List ℕ). record { code = record { start = 0; bytes = take code file }; result = record { start = code; bytes = b } }) e

module _ (R : Room) (file : List ℕ) where
  pub old_refused : {number place : ℕ} → stops number place ≡ alone R 0 file → stops number place ≡ spanned (old_parts R file)
  unfolding old_parts
  old_refused e = ap (λ a. spanned (next a (λ size. result_read R (cut_at file size) size))) e

  pub old_value : {code : ℕ} {R' : Room} {t : Answer Spans} → gives code ≡ alone R 0 file → R' ≡ R
      → t ≡ spanned (result_read R' (golden_in file (old_spans code (length file - code))) code) → t ≡ spanned (old_parts R file)
  unfolding old_parts
  old_value {code} e same z =
      z ∙ ap (λ S. spanned (result_read S (golden_in file (old_spans code (length file - code))) code)) same ∙ ap (λ g. spanned (result_read R g code)) (old_golden file code)
      ∙ ap (λ a. spanned (next a (λ size. result_read R (cut_at file size) size))) e

-- ---- both values of a golden in fields
module _ (R : Room) (file : List ℕ) (parts : Spans) {part : List ℕ} (p : part ≡ part_of file parts.code) where
  pub code-some : parts.code.start + parts.code.size ≤ length file → {code : ℕ} → gives code ≡ alone R parts.code.start part → 0 < parts.code.size
  code-some h {code} e =
      let w = alone-ends R parts.code.start (part_in file parts.code).bytes code (sym (same_part R file parts.code p e)) in
      omega (arith, w.some_bytes, w.inside, part_length file parts.code h)

  pub both-refused : {number place : ℕ} → stops number place ≡ alone R parts.code.start part → stops number place ≡ spanned (both_read R (golden_in file parts))
  unfolding both_read
  both-refused e = ap (λ a. spanned (next a (result_read R (golden_in file parts)))) (same_part R file parts.code p e)

  pub both-value : {code : ℕ} {R' : Room} {t : Answer Spans} → gives code ≡ alone R parts.code.start part → R' ≡ R → t ≡ spanned (result_read R' (golden_in file parts) code)
      → t ≡ spanned (both_read R (golden_in file parts))
  unfolding both_read
  both-value {code} e same z = z ∙ ap (λ S. spanned (result_read S (golden_in file parts) code)) same ∙ ap (λ a. spanned (next a (result_read R (golden_in file parts)))) (same_part R file parts.code p e)

-- ---- what is taken apart is the parts that were looked at
judged_is : (g : Golden) (a b : ℕ) (P : Answer Golden → Type 0) → ((number place : ℕ) → P (stops number place)) → P (gives g) → P (judged g a b)
unfolding judged
judged_is g a b P halt is = go (is_code g.code.bytes) (ltb a (length g.code.bytes)) (ltb b (length g.result.bytes))
  where
    go : (x y z : Bool)
        → P (cond x (cond y (stops trailing_bytes (g.code.start + a)) (cond z (stops trailing_bytes (g.result.start + b)) (gives g))) (stops bad_type g.code.start))
    go false y z = halt bad_type g.code.start
    go true true z = halt trailing_bytes (g.code.start + a)
    go true false true = halt trailing_bytes (g.result.start + b)
    go true false false = is

next-is : {A : Type 0} (a : Answer A) (f : A → Answer Golden) (P : Answer Golden → Type 0) → ((number place : ℕ) → P (stops number place)) → ((x : A) → P (f x)) → P (next a f)
next-is (gives x) f P halt is = is x
next-is (stops number place) f P halt is = halt number place

result-is : (R : Room) (g : Golden) (a : ℕ) (P : Answer Golden → Type 0) → ((number place : ℕ) → P (stops number place)) → P (gives g) → P (result_read R g a)
unfolding result_read
result-is R g a P halt is = next-is (alone R g.result.start g.result.bytes) (judged g a) P halt (λ b. judged_is g a b P halt is)

both_is : (R : Room) (g : Golden) (P : Answer Golden → Type 0) → ((number place : ℕ) → P (stops number place)) → P (gives g) → P (both_read R g)
unfolding both_read
both_is R g P halt is = next-is (alone R g.code.start g.code.bytes) (result_read R g) P halt (λ a. result-is R g a P halt is)

module _ (R : Room) (file : List ℕ) (parts : Spans) (st : Standing (length file) parts) where
  spans_in : spans_of (golden_in file parts) ≡ parts
  spans_in =
      let named : ℕ → ℕ → Spans = λ c r. record { code = record { start = parts.code.start; size = c }; result = record { start = parts.result.start; size = r } } in
      ap (λ c. named c (length (golden_in file parts).result.bytes)) (part_length file parts.code st.code_in) ∙ ap (named parts.code.size) (part_length file parts.result st.result_in)

  still : Standing (length file) (spans_of (golden_in file parts))
  still = subst (Standing (length file)) (sym spans_in) st

  pub result_standing : (code : ℕ) {t : Answer Spans} → t ≡ spanned (result_read R (golden_in file parts) code) → StandingIn (length file) t
  result_standing code e =
      subst (StandingIn (length file)) (sym e) (result-is R (golden_in file parts) code (λ a. StandingIn (length file) (spanned a)) (λ number place. tt) still)

  pub both_standing : {t : Answer Spans} → t ≡ spanned (both_read R (golden_in file parts)) → StandingIn (length file) t
  both_standing e = subst (StandingIn (length file)) (sym e) (both_is R (golden_in file parts) (λ a. StandingIn (length file) (spanned a)) (λ number place. tt) still)

-- ---- the fields
pub fields-fault : (file : List ℕ) {x : Fault} → Err x ≡ fault_of file → stops (number_of x.refusal) x.place ≡ spanned (in_fields file)
unfolding in_fields
fields-fault file {x} e = rw (its_fault file e) refl

pub fields-sound : (file : List ℕ) {o : rust.Option Spans} → (reading file).fault ≡ none → o ≡ spans_if (golden_fields (reading file).fields)
    → numbered (ok_or o (fault NoSuchField 0)) ≡ spanned (in_fields file)
unfolding in_fields
fields-sound file {o} e z =
    ap (λ (p : rust.Option Spans). numbered (ok_or p (fault NoSuchField 0))) z ∙ go (golden_fields (reading file).fields)
    ∙ ap (λ f. spanned (or_fault f (or_other (golden_fields (reading file).fields)))) (sym e)
  where
    go : (g : Option Golden) → numbered (ok_or (spans_if g) (fault NoSuchField 0)) ≡ spanned (or_other g)
    go none = refl
    go (some g) = refl

pub fields_standing : (len : ℕ) (o : rust.Option Spans) → StandingIf len o → StandingIn len (numbered (ok_or o (fault NoSuchField 0)))
fields_standing len rust.None st = tt
fields_standing len (rust.Some s) st = st
