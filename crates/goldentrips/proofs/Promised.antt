-- THEOREM of golden files (specs/Promised): a value reads alone as it reads at the front of others (Parting), and fields that are written read
-- back (taggedfields). Assumes nothing.
use mathlib.Core.Path.{◌≡◌, refl, sym, ap, subst, ◌∙◌}
use Prim.Native.Nat.{ℕ, ◌+◌, ◌/◌, ◌%◌, ◌≤◌, min}
use native.Mathlib.Omega.{arith}
use mathlib.Core.Bool.{Bool, true, false, cond}
use mathlib.Core.List.{List, [], ◌∷◌, ◌++◌}
use lib.Dec.{ltb}
use lib.ListN.{length, take, drop, length-append, take-append-drop}
use lib.Seq.{length-take-le, take-append_seam, drop-append_seam}
use borrow.Author.Tests.{le-ltb, ltb-false, eqb-true}
use Rattle.refusals.specs.Limits.{nothing}
use Rattle.refusals.specs.Numbers.{no_room, value_too_long}
use Rattle.clearing.specs.Lent.{padded}
use Rattle.taggedfields.specs.Fields.{Field, Reading, reading, among, bytes_of, spelt}
use Rattle.taggedfields.specs.Looking.{size_in}
use Rattle.taggedfields.specs.Promised.{tags_of, laid}
use Rattle.taggedfields.proofs.Promised.{fields_keep_their_promises}
use Rattle.taggedfields.proofs.Spelt.{spelt-reading}
use Rattle.grammar.specs.Input.{Bytes}
use Rattle.grammar.specs.Reading.{Answer, gives, stops}
use Rattle.grammar.proofs.Tests.{never}
use Rattle.readalone.specs.Alone.{Room, within, alone}
use Rattle.goldenparts.specs.Forms.{Golden, next, is_code, judged, result_read, cut_at, old_parts, only_one, golden_fields, or_other, or_fault, in_fields, both_read, new_parts}
use Rattle.goldenparts.proofs.Fielded.{Three, three, code_in, result_in, fielded}
use Rattle.goldens.specs.Moving as moving
use Rattle.goldens.specs.Moving.{written, new_form, old_form, most_contents, to_fields, to_plain, refused_as, in_room, moved_as}
use Rattle.goldens.proofs.Taking.{gives-stops as none_gives, same_gives, next_gives, Old, old_told, New, new_told}
use Rattle.goldentrips.specs.Promised.{Whole, Both, Promised}
use Rattle.goldentrips.proofs.Parting.{cut_same, append_same, whole_told_lem, whole-alone, front-told, code_letter_lem, read-alone}

-- ---- two values that read whole are a golden
judged-whole : (g : Golden) → is_code g.code.bytes ≡ true → judged g (length g.code.bytes) (length g.result.bytes) ≡ gives g
unfolding judged
judged-whole g c = rw (
  c,
  le-ltb (length g.code.bytes) (length g.code.bytes) (omega arith),
  le-ltb (length g.result.bytes) (length g.result.bytes) (omega arith),
) refl

result-whole : (R : Room) (g : Golden) → is_code g.code.bytes ≡ true → Whole R g.result.bytes → result_read R g (length g.code.bytes) ≡ gives g
unfolding result_read
result-whole R g c w = ap (λ a. next a (judged g (length g.code.bytes))) (whole-alone R g.result.start g.result.bytes w) ∙ judged-whole g c

both-whole : (R : Room) (g : Golden) → is_code g.code.bytes ≡ true → Whole R g.code.bytes → Whole R g.result.bytes → both_read R g ≡ gives g
unfolding both_read
both-whole R g c v w = ap (λ a. next a (result_read R g)) (whole-alone R g.code.start g.code.bytes v) ∙ result-whole R g c w

-- ---- old to new
module _ (R : Room) (old : List ℕ) (g : Golden) (o : Old R old g) where
  abbrev size : ℕ
  size = o.size

  halves : take size old ++ drop size old ≡ old
  halves = take-append-drop size old

  old_code : Whole R (take size old)
  old_code =
      let w = front-told R old size o.first in
      let l = length-take-le size old o.ended.inside in
      let reads = cut_same R (take size old) (drop size old) w.0 (ap (within R) halves ∙ w.1) (omega (arith, w.2, l)) in
      record { root = w.0.0; state = w.0.1; reads = reads; all = w.2 ∙ sym l }

  old_result : Whole R (drop size old)
  old_result =
      let e : g.result.bytes ≡ drop size old = ap (λ x. x.result.bytes) o.cut in
      subst (Whole R) e (whole_told_lem R g.result.start g.result.bytes o.read.result)

  old_is_code : is_code (take size old) ≡ true
  old_is_code = ap (λ x. is_code x.code.bytes) (sym o.cut) ∙ o.read.code

  -- what is written, by its bytes
  new-bytes : new_form g ≡ spelt (written 1 (1 ∷ []) ∷ written 2 (take size old) ∷ written 3 (drop size old) ∷ [])
  unfolding new_form
  new-bytes = ap (λ x. spelt (written 1 (1 ∷ []) ∷ written 2 x.code.bytes ∷ written 3 x.result.bytes ∷ [])) o.cut

record Written (g : Golden) (new : List ℕ) : Type 0 where
  is : new ≡ new_form g
  code : length g.code.bytes ≤ most_contents
  result : length g.result.bytes ≤ most_contents

written-told : (g : Golden) (new : List ℕ) → moving.fielded g ≡ gives new → Written g new
unfolding moving.fielded
written-told g new e = go (ltb most_contents (length g.code.bytes)) (ltb most_contents (length g.result.bytes)) refl refl e
  where
    go : (x y : Bool) → ltb most_contents (length g.code.bytes) ≡ x → ltb most_contents (length g.result.bytes) ≡ y
        → cond x (stops value_too_long g.code.start) (cond y (stops value_too_long g.result.start) (gives (new_form g))) ≡ gives new → Written g new
    go true y p q d = none_gives d
    go false true p q d = none_gives d
    go false false p q d =
        record {
          is = sym (same_gives d);
          code = ltb-false most_contents (length g.code.bytes) p;
          result = ltb-false most_contents (length g.result.bytes) q;
        }

old_moved : (R : Room) (old new : List ℕ) → to_fields R old ≡ gives new → (g : Golden) × Old R old g × Written g new
unfolding to_fields
old_moved R old new e =
    let w = next_gives (old_parts R old) moving.fielded new e in
    (w.0, old_told R old w.0 w.1, written-told w.0 new w.2)

old_both : (R : Room) (old new : List ℕ) → to_fields R old ≡ gives new → Both R old new
old_both R old new e =
    let w = old_moved R old new e in
    let o = w.1 in
    record {
      code = take o.size old;
      result = drop o.size old;
      back_to_back = sym (take-append-drop o.size old);
      in_fields_lem = w.2.is ∙ new-bytes R old w.0 o;
      code_reads = old_code R old w.0 o;
      a_code_lem = code_letter_lem R (take o.size old) (old_code R old w.0 o) (old_is_code R old w.0 o);
      result-reads = old_result R old w.0 o;
    }

-- ---- fields that are written read back
abbrev golden : List ℕ → List ℕ → Golden
golden code result = record { code = record { start = 7; bytes = code }; result = record { start = 10 + length code; bytes = result } }

written-fields : (code result : List ℕ) → in_fields (spelt (written 1 (1 ∷ []) ∷ written 2 code ∷ written 3 result ∷ [])) ≡ gives (golden code result)
unfolding in_fields laid tags_of among
written-fields code result =
    let fs = written 1 (1 ∷ []) ∷ written 2 code ∷ written 3 result ∷ [] in
    let read = fields_keep_their_promises.back fs (refl, (refl, (refl, tt))) in
    let start : 4 + 3 + length code + 3 ≡ 10 + length code = omega arith in
    ap (λ (r : Reading). or_fault r.fault (or_other (golden_fields r.fields))) read
    ∙ ap (λ (i : ℕ). gives (record { code = record { start = 7; bytes = code }; result = record { start = i; bytes = result } })) start

old_back : (R : Room) (old new : List ℕ) → to_fields R old ≡ gives new → to_plain R new ≡ gives old
unfolding to_plain new_parts
old_back R old new e =
    let w = old_moved R old new e in
    let o = w.1 in
    let code = take o.size old in
    let result = drop o.size old in
    let fields : in_fields new ≡ gives (golden code result) = ap in_fields (w.2.is ∙ new-bytes R old w.0 o) ∙ written-fields code result in
    let both = both-whole R (golden code result) (old_is_code R old w.0 o) (old_code R old w.0 o) (old_result R old w.0 o) in
    ap (λ a. next (next a (both_read R)) (λ g. gives (old_form g))) fields ∙ ap (λ a. next a (λ g. gives (old_form g))) both ∙ ap gives (take-append-drop o.size old)

-- ---- new to old
only_one-alone : (l : List ℕ) → only_one l ≡ true → l ≡ 1 ∷ []
only_one-alone [] e = never e
only_one-alone (b ∷ []) e = ap (λ x. x ∷ []) (eqb-true b 1 e)
only_one-alone (b ∷ c ∷ l) e = never e

module _ (R : Room) (new : List ℕ) (b : Bytes new) (g : Golden) (n : New R new g) where
  found : Three (reading new).fields g
  found = three (reading new).fields g (fielded new g n.fields).fields

  code_is : g.code.bytes ≡ found.code.contents
  code_is = ap (λ x. x.code.bytes) found.golden

  result-is : g.result.bytes ≡ found.result.contents
  result-is = ap (λ x. x.result.bytes) found.golden

  new-code : Whole R g.code.bytes
  new-code = whole_told_lem R g.code.start g.code.bytes n.first

  new-result : Whole R g.result.bytes
  new-result = whole_told_lem R g.result.start g.result.bytes n.read.result

  -- a length of two bytes is small
  size_small : (i : ℕ) → size_in new i ≤ most_contents
  size_small i = omega (arith, b (i + 1), b (i + 2))

  code-small : length g.code.bytes ≤ most_contents
  code-small = omega (arith, ap length code_is, (code_in new g found).size, size_small found.code.place)

  result-small : length g.result.bytes ≤ most_contents
  result-small = omega (arith, ap length result-is, (result_in new g found).size, size_small found.result.place)

  -- a field by its tag and contents
  field-bytes : (f : Field) (tag : ℕ) (contents : List ℕ) → f.tag ≡ tag → f.contents ≡ contents → bytes_of f ≡ bytes_of (written tag contents)
  field-bytes f tag contents p q =
      ap (λ t. t ∷ length f.contents % 256 ∷ length f.contents / 256 ∷ f.contents) p ∙ ap (λ l. tag ∷ length l % 256 ∷ length l / 256 ∷ l) q

  -- the file is its three fields
  new_is : new ≡ spelt (written 1 (1 ∷ []) ∷ written 2 g.code.bytes ∷ written 3 g.result.bytes ∷ [])
  unfolding spelt
  new_is =
      let e = field-bytes found.edition 1 (1 ∷ []) found.first (only_one-alone found.edition.contents found.one) in
      let c = field-bytes found.code 2 g.code.bytes found.second (sym code_is) in
      let r = field-bytes found.result 3 g.result.bytes found.third (sym result-is) in
      sym (spelt-reading new b (fielded new g n.fields).clean) ∙ ap spelt found.are
      ∙ ap (λ x. x ++ (bytes_of found.code ++ (bytes_of found.result ++ []))) e
      ∙ ap (λ x. bytes_of (written 1 (1 ∷ [])) ++ (x ++ (bytes_of found.result ++ []))) c
      ∙ ap (λ x. bytes_of (written 1 (1 ∷ [])) ++ (bytes_of (written 2 g.code.bytes) ++ (x ++ []))) r

  -- the old form of it, taken apart
  abbrev old : List ℕ
  old = g.code.bytes ++ g.result.bytes

  cut_is : cut_at old (length g.code.bytes) ≡ record { code = record { start = 0; bytes = g.code.bytes }; result = record { start = length g.code.bytes; bytes = g.result.bytes } }
  cut_is =
      ap (λ (x : List ℕ). record { code = record { start = 0; bytes = x }; result = record { start = length g.code.bytes; bytes = drop (length g.code.bytes) old } })
      (take-append_seam g.code.bytes g.result.bytes)
      ∙ ap (λ (x : List ℕ). record { code = record { start = 0; bytes = g.code.bytes }; result = record { start = length g.code.bytes; bytes = x } })
      (drop-append_seam g.code.bytes g.result.bytes)

  first_alone : alone R 0 old ≡ gives (length g.code.bytes)
  first_alone =
      let l = length-append g.code.bytes g.result.bytes in
      let reads = append_same R g.code.bytes g.result.bytes (new-code.root, new-code.state) new-code.reads (omega (arith, l, code-small, result-small)) in
      read-alone R 0 old (new-code.root, new-code.state) reads ∙ ap gives new-code.all

  parted : old_parts R old ≡ gives (cut_at old (length g.code.bytes))
  unfolding old_parts
  parted =
      ap (λ a. next a (λ size. result_read R (cut_at old size) size)) first_alone
      ∙ ap (λ x. result_read R x (length g.code.bytes)) cut_is
      ∙ result-whole R (record { code = record { start = 0; bytes = g.code.bytes }; result = record { start = length g.code.bytes; bytes = g.result.bytes } }) n.read.code new-result
      ∙ ap gives (sym cut_is)

  moved : moving.fielded (cut_at old (length g.code.bytes)) ≡ gives new
  unfolding moving.fielded new_form
  moved =
      ap moving.fielded cut_is
      ∙ rw (le-ltb most_contents (length g.code.bytes) code-small, le-ltb most_contents (length g.result.bytes) result-small) (ap gives (sym new_is))

new_moved : (R : Room) (new old : List ℕ) → to_plain R new ≡ gives old → (g : Golden) × New R new g × (old ≡ old_form g)
unfolding to_plain
new_moved R new old e =
    let w = next_gives (new_parts R new) (λ g. gives (old_form g)) old e in
    (w.0, new_told R new w.0 w.1, sym (same_gives w.2))

new_both : (R : Room) (new old : List ℕ) → Bytes new → to_plain R new ≡ gives old → Both R old new
new_both R new old b e =
    let w = new_moved R new old e in
    let g = w.0 in
    let n = w.1 in
    record {
      code = g.code.bytes;
      result = g.result.bytes;
      back_to_back = w.2;
      in_fields_lem = new_is R new b g n;
      code_reads = new-code R new b g n;
      a_code_lem = code_letter_lem R g.code.bytes (new-code R new b g n) n.read.code;
      result-reads = new-result R new b g n;
    }

new-back : (R : Room) (new old : List ℕ) → Bytes new → to_plain R new ≡ gives old → to_fields R old ≡ gives new
unfolding to_fields
new-back R new old' b e =
    let w = new_moved R new old' e in
    ap (λ l. next (old_parts R l) moving.fielded) w.2 ∙ ap (λ a. next a moving.fielded) (parted R new b w.0 w.1) ∙ moved R new b w.0 w.1

-- ---- room
written_in : (bytes : List ℕ) (room : ℕ) → length bytes ≤ min room nothing
    → moved_as (gives bytes) room ≡ (gives (length bytes), padded room bytes)
unfolding moved_as
written_in bytes room l =
    ap (λ b. cond {A = Answer ℕ × List ℕ} b (refused_as no_room (min room nothing) room) (gives (length bytes), padded room bytes))
    (le-ltb (min room nothing) (length bytes) l)

pub goldens_keep_their_promises : Promised
goldens_keep_their_promises =
    record {
      to_fields_lem = old_both;
      to_plain_lem = new_both;
      old_returns = old_back;
      new_returns = new-back;
      written_out = written_in;
    }
