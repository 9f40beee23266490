-- What a golden that was taken apart tells: its two values, each read to its part's end, and the first a code. Assumes nothing.
use mathlib.Core.Path.{◌≡◌, refl, sym, ap, subst, ◌∙◌}
use mathlib.Core.Bool.{Bool, true, false, cond}
use mathlib.Core.List.{List}
use Prim.Native.Nat.{ℕ, ◌+◌, ◌≤◌}
use native.Mathlib.Omega.{arith}
use lib.Dec.{ltb}
use lib.ListN.{length, take, drop}
use lib.Seq.{length-take-le, take-length}
use borrow.Author.Tests.{ltb-false}
use Rattle.refusals.specs.Numbers.{bad_type, trailing_bytes}
use Rattle.grammar.specs.Reading.{Answer, gives, stops}
use Rattle.readalone.specs.Alone.{Room, alone}
use Rattle.readalone.proofs.Placing.{Ended, alone-ends}
use Rattle.goldenparts.specs.Forms.{Golden, next, is_code, judged, result_read, cut_at, old_parts, in_fields, both_read, new_parts}
use Rattle.goldenparts.specs.Spans.{spans_of, part_in, golden_in}
use Rattle.goldenparts.proofs.Fielded.{fielded, golden_parts}

pub gives-stops : {A X : Type 0} {a : A} {number place : ℕ} → stops number place ≡ gives a → X
gives-stops e = let z : ◌≡◌ {A = ℕ} 0 1 = cc in absurd (omega arith)

pub same_gives : {A : Type 0} {a b : A} → gives a ≡ gives b → a ≡ b
same_gives e = cc

-- what was given was given by both
pub next_gives : {A B : Type 0} (a : Answer A) (f : A → Answer B) (b : B) → next a f ≡ gives b → (x : A) × (a ≡ gives x) × (f x ≡ gives b)
next_gives (gives x) f b e = (x, refl, e)
next_gives (stops number place) f b e = gives-stops e

-- a golden whose values were judged and found good
pub record Judged (g h : Golden) (a b : ℕ) : Type 0 where
  pub same : h ≡ g
  pub code : is_code g.code.bytes ≡ true
  pub code_end : length g.code.bytes ≤ a
  pub result_end : length g.result.bytes ≤ b

judged-told : (g h : Golden) (a b : ℕ) → judged g a b ≡ gives h → Judged g h a b
unfolding judged
judged-told g h a b e = go (is_code g.code.bytes) (ltb a (length g.code.bytes)) (ltb b (length g.result.bytes)) refl refl refl e
  where
    go : (x y z : Bool) → is_code g.code.bytes ≡ x → ltb a (length g.code.bytes) ≡ y → ltb b (length g.result.bytes) ≡ z
        → cond x (cond y (stops trailing_bytes (g.code.start + a)) (cond z (stops trailing_bytes (g.result.start + b)) (gives g))) (stops bad_type g.code.start) ≡ gives h
        → Judged g h a b
    go false y z p q r d = gives-stops d
    go true true z p q r d = gives-stops d
    go true false true p q r d = gives-stops d
    go true false false p q r d =
        record {
          same = sym (same_gives d);
          code = p;
          code_end = ltb-false a (length g.code.bytes) q;
          result_end = ltb-false b (length g.result.bytes) r;
        }

-- The result was read to its end, and so was the code if it was read from its part.
pub record Read (R : Room) (g : Golden) : Type 0 where
  pub code : is_code g.code.bytes ≡ true
  pub result : alone R g.result.start g.result.bytes ≡ gives (length g.result.bytes)

result-told : (R : Room) (g h : Golden) (a : ℕ) → result_read R g a ≡ gives h → (h ≡ g) × Read R g × (length g.code.bytes ≤ a)
unfolding result_read
result-told R g h a e =
    let w = next_gives (alone R g.result.start g.result.bytes) (judged g a) h e in
    let j = judged-told g h a w.0 w.2 in
    let n = alone-ends R g.result.start g.result.bytes w.0 w.1 in
    let all : w.0 ≡ length g.result.bytes = omega (arith, n.inside, j.result_end) in
    (j.same, record { code = j.code; result = w.1 ∙ ap gives all }, j.code_end)

-- an old golden
pub record Old (R : Room) (file : List ℕ) (g : Golden) : Type 0 where
  pub size : ℕ
  pub first : alone R 0 file ≡ gives size
  pub ended : Ended file size
  pub cut : g ≡ cut_at file size
  pub read : Read R g

pub old_told : (R : Room) (file : List ℕ) (g : Golden) → old_parts R file ≡ gives g → Old R file g
unfolding old_parts
old_told R file g e =
    let w = next_gives (alone R 0 file) (λ size. result_read R (cut_at file size) size) g e in
    let r = result-told R (cut_at file w.0) g w.0 w.2 in
    record { size = w.0; first = w.1; ended = alone-ends R 0 file w.0 w.1; cut = r.0; read = subst (Read R) (sym r.0) r.1 }

-- its parts are those that its numbers name
pub old_parts_lem : (R : Room) (file : List ℕ) (g : Golden) → old_parts R file ≡ gives g → golden_in file (spans_of g) ≡ g
old_parts_lem R file g e =
    let o = old_told R file g e in
    let n = o.size in
    let c : take (length (take n file)) file ≡ take n file = ap (λ i. take i file) (length-take-le n file o.ended.inside) in
    let r : take (length (drop n file)) (drop n file) ≡ drop n file = take-length (drop n file) in
    ap (λ x. golden_in file (spans_of x)) o.cut
    ∙ ap (λ (b : List ℕ). record { code = record { start = 0; bytes = b }; result = part_in file (record { start = n; size = length (drop n file) }) }) c
    ∙ ap (λ (b : List ℕ). record { code = record { start = 0; bytes = take n file }; result = record { start = n; bytes = b } }) r
    ∙ sym o.cut

-- a new golden
pub record New (R : Room) (file : List ℕ) (g : Golden) : Type 0 where
  pub fields : in_fields file ≡ gives g
  pub first : alone R g.code.start g.code.bytes ≡ gives (length g.code.bytes)
  pub read : Read R g

pub new_told : (R : Room) (file : List ℕ) (g : Golden) → new_parts R file ≡ gives g → New R file g
unfolding new_parts both_read
new_told R file g e =
    let w = next_gives (in_fields file) (both_read R) g e in
    let h = w.0 in
    let v = next_gives (alone R h.code.start h.code.bytes) (result_read R h) g w.2 in
    let r = result-told R h g v.0 v.2 in
    let n = alone-ends R h.code.start h.code.bytes v.0 v.1 in
    let all : v.0 ≡ length h.code.bytes = omega (arith, n.inside, r.2) in
    record {
      fields = w.1 ∙ ap gives (sym r.0);
      first = subst (λ x. alone R x.code.start x.code.bytes ≡ gives (length x.code.bytes)) (sym r.0) (v.1 ∙ ap gives all);
      read = subst (Read R) (sym r.0) r.1;
    }

pub new-parts : (R : Room) (file : List ℕ) (g : Golden) → new_parts R file ≡ gives g → golden_in file (spans_of g) ≡ g
new-parts R file g e = golden_parts file g (fielded file g (new_told R file g e).fields).fields
