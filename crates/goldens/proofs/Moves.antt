-- What a move puts into the output, and each way out of the moves. Assumes nothing.
use mathlib.Core.Path.{◌≡◌, refl, sym, ap, ◌∙◌}
use mathlib.Core.Bool.{Bool, true, false, cond}
use mathlib.Core.List.{List, [], ◌∷◌, ◌++◌, append-nil}
use Prim.Native.Nat.{ℕ, ◌+◌, ◌-◌, ◌/◌, ◌%◌, ◌≤◌, ◌<◌, min}
use native.Mathlib.Omega.{arith}
use lib.Dec.{ltb}
use lib.ListN.{length, take, drop, length-append, length-drop}
use lib.Seq.{sets, length-take-le}
use borrow.Author.Tests.{lt-ltb, le-ltb}
use Rattle.refusals.specs.Numbers.{no_room, value_too_long}
use Rattle.refusals.specs.Limits.{nothing}
use Rattle.clearing.specs.Lent.{zeros, padded}
use Rattle.clearing.proofs.Laws.{sets-padded}
use Rattle.taggedfields.proofs.Stored.{put_mid-sets, sets-append}
use borrow.Rule.Slice.PartMut.{put_mid}
use Rattle.std.specs.Prelude.{Ok, Err}
use Rattle.std.specs.Int.{w16, to_le_bytes}
use Rattle.refusals.specs.declared.Fault.{Fault}
use Rattle.refusals.specs.Faults.{number_of}
use Rattle.taggedfields.specs.Fitting.{fitting}
use Rattle.taggedfields.proofs.Fitted.{short, fits}
use Rattle.taggedfields.specs.Fields.{bytes_of, spelt}
use Rattle.grammar.specs.Reading.{Answer, gives, stops}
use Rattle.readalone.specs.Alone.{Room}
use Rattle.goldenparts.specs.declared.Spans.{Spans}
use Rattle.goldenparts.specs.Forms.{Golden, next, old_parts, new_parts}
use Rattle.goldenparts.specs.Spans.{spans_of, spanned, golden_in, Standing}
use Rattle.goldenparts.proofs.Judging.{part_length}
use Rattle.goldens.specs.Moving.{written, new_form, old_form, most_contents, fielded, to_fields, to_plain, refused_as, in_room, moved_as}
use Rattle.goldens.proofs.Taking.{gives-stops, same_gives, old_parts_lem, new-parts}

-- ---- what is put
-- std's two bytes of a number are a field's
pub two-bytes : (n : ℕ) → n < 65536 → to_le_bytes w16 n ≡ n % 256 ∷ n / 256 ∷ []
two-bytes n h = let e : n / 256 % 256 ≡ n / 256 = omega arith in rw e refl

-- a field's contents behind its header
pub field_put : (out : List ℕ) (at tag : ℕ) (bytes : List ℕ) {out₁ out₂ : List ℕ} → out₁ ≡ sets out at (tag ∷ length bytes % 256 ∷ length bytes / 256 ∷ [])
    → out₂ ≡ sets out₁ (at + 3) bytes → out₂ ≡ sets out at (bytes_of (written tag bytes))
field_put out at tag bytes p q =
    q ∙ ap (λ o. sets o (at + 3) bytes) p ∙ sym (sets-append out at (tag ∷ length bytes % 256 ∷ length bytes / 256 ∷ []) bytes)

-- the new form is its three fields
pub three-fields : (g : Golden) → new_form g ≡ (1 ∷ 1 ∷ 0 ∷ 1 ∷ []) ++ (bytes_of (written 2 g.code.bytes) ++ bytes_of (written 3 g.result.bytes))
unfolding new_form spelt
three-fields g = ap (λ l. (1 ∷ 1 ∷ 0 ∷ 1 ∷ []) ++ (bytes_of (written 2 g.code.bytes) ++ l)) (append-nil (bytes_of (written 3 g.result.bytes)))

pub new_length : (g : Golden) → length (new_form g) ≡ 10 + length g.code.bytes + length g.result.bytes
new_length g =
    let l = length-append (bytes_of (written 2 g.code.bytes)) (bytes_of (written 3 g.result.bytes)) in
    ap length (three-fields g) ∙ omega (arith, l)

module _ (g : Golden) {code result : List ℕ} (c : code ≡ g.code.bytes) (r : result ≡ g.result.bytes) (out : List ℕ) {out₁ out₂ : List ℕ} where
  pub fields-put : {out₃ : List ℕ} → out₁ ≡ sets out 0 (1 ∷ 1 ∷ 0 ∷ 1 ∷ []) → out₂ ≡ sets out₁ 4 (bytes_of (written 2 code))
      → out₃ ≡ sets out₂ (7 + length code) (bytes_of (written 3 result)) → out₃ ≡ sets out 0 (new_form g)
  fields-put {out₃} p q z =
      let first = bytes_of (written 2 code) in
      let second = bytes_of (written 3 result) in
      let n : 4 + length first ≡ 7 + length code = omega arith in
      let all : first ++ second ≡ bytes_of (written 2 g.code.bytes) ++ bytes_of (written 3 g.result.bytes) = rw (c, r) refl in
      z ∙ ap (λ o. sets o (7 + length code) second) q ∙ ap (λ i. sets (sets out₁ 4 first) i second) (sym n)
      ∙ sym (sets-append out₁ 4 first second) ∙ ap (λ o. sets o 4 (first ++ second)) p
      ∙ sym (sets-append out 0 (1 ∷ 1 ∷ 0 ∷ 1 ∷ []) (first ++ second)) ∙ ap (λ l. sets out 0 ((1 ∷ 1 ∷ 0 ∷ 1 ∷ []) ++ l)) all ∙ ap (sets out 0) (sym (three-fields g))

  pub plain-put : out₁ ≡ sets out 0 code → out₂ ≡ sets out₁ (length code) result → out₂ ≡ sets out 0 (old_form g)
  plain-put p q =
      let n : 0 + length code ≡ length code = omega arith in
      let all : code ++ result ≡ old_form g = rw (c, r) refl in
      q ∙ ap (λ o. sets o (length code) result) p ∙ ap (λ i. sets (sets out 0 code) i result) (sym n) ∙ sym (sets-append out 0 code result) ∙ ap (sets out 0) all

-- ---- room for it
abbrev pub Answered : Type 0
Answered = Answer ℕ × List ℕ

module _ (bytes : List ℕ) (len : ℕ) {size : ℕ} (all : size ≡ length bytes) where
  pub no_room_lem : {x : Fault} → Err x ≡ fitting len size → {out : List ℕ} → out ≡ zeros len → ◌≡◌ {A = Answered} (stops (number_of x.refusal) x.place, out) (in_room bytes len)
  no_room_lem e z = let w = short len size e in rw (z, w.is, sym all, w.test) refl

  pub in_room_lem : {n : ℕ} → Ok n ≡ fitting len size → {out : List ℕ} → out ≡ sets (zeros len) 0 bytes → ◌≡◌ {A = Answered} (gives n, out) (in_room bytes len)
  in_room_lem e z = let w = fits len size e in rw (z, sets-padded len bytes (omega (arith, w.within, all)), w.is, sym all, w.test) refl

-- ---- a field for each value
module _ (file : List ℕ) (parts : Spans) (st : Standing (length file) parts) (len : ℕ) where
  abbrev golden : Golden
  golden = golden_in file parts

  pub golden_length : length (new_form golden) ≡ 10 + parts.code.size + parts.result.size
  golden_length = omega (arith, new_length golden, part_length file parts.code st.code_in, part_length file parts.result st.result_in)

  pub plain-length : length (old_form golden) ≡ parts.code.size + parts.result.size
  plain-length = omega (
    arith,
    length-append golden.code.bytes golden.result.bytes,
    part_length file parts.code st.code_in,
    part_length file parts.result st.result_in,
  )

  pub code-too_long : most_contents < parts.code.size → refused_as value_too_long parts.code.start len ≡ moved_as (fielded golden) len
  unfolding fielded moved_as
  code-too_long h = rw (lt-ltb most_contents (length golden.code.bytes) (omega (arith, part_length file parts.code st.code_in))) refl

  pub result-too_long : parts.code.size ≤ most_contents → most_contents < parts.result.size → refused_as value_too_long parts.result.start len ≡ moved_as (fielded golden) len
  unfolding fielded moved_as
  result-too_long k h = rw (
    le-ltb most_contents (length golden.code.bytes) (omega (arith, part_length file parts.code st.code_in)),
    lt-ltb most_contents (length golden.result.bytes) (omega (arith, part_length file parts.result st.result_in)),
  ) refl

  pub both_held : parts.code.size ≤ most_contents → parts.result.size ≤ most_contents → in_room (new_form golden) len ≡ moved_as (fielded golden) len
  unfolding fielded moved_as
  both_held k h = rw (
    le-ltb most_contents (length golden.code.bytes) (omega (arith, part_length file parts.code st.code_in)),
    le-ltb most_contents (length golden.result.bytes) (omega (arith, part_length file parts.result st.result_in)),
  ) refl

-- ---- the moves: what was taken apart, or why it was not
stopped : (a : Answer Golden) {number place : ℕ} → stops number place ≡ spanned a → a ≡ stops number place
stopped (gives g) e = gives-stops e
stopped (stops n p) {number} {place} e =
    let a : n ≡ number = cc in
    let b : p ≡ place = cc in
    ap (λ i. stops i p) a ∙ ap (stops number) b

apart : (a : Answer Golden) {parts : Spans} → gives parts ≡ spanned a → (g : Golden) × (a ≡ gives g) × (spans_of g ≡ parts)
apart (gives g) e = (g, refl, same_gives (sym e))
apart (stops n p) e = gives-stops (sym e)

module _ (R : Room) (file : List ℕ) (len : ℕ) where
  pub old_stopped : {number place : ℕ} → stops number place ≡ spanned (old_parts R file) → refused_as number place len ≡ moved_as (to_fields R file) len
  unfolding to_fields moved_as
  old_stopped e = ap (λ a. moved_as (next a fielded) len) (sym (stopped (old_parts R file) e))

  pub old_moved : {parts : Spans} → gives parts ≡ spanned (old_parts R file) → {lent : ℕ} → lent ≡ len
      → {t : Answered} → t ≡ moved_as (fielded (golden_in file parts)) lent → t ≡ moved_as (to_fields R file) len
  unfolding to_fields
  old_moved {parts} e same z =
      let w = apart (old_parts R file) e in
      z ∙ ap (moved_as (fielded (golden_in file parts))) same ∙ ap (λ s. moved_as (fielded (golden_in file s)) len) (sym w.2) ∙ ap (λ g. moved_as (fielded g) len) (old_parts_lem R file w.0 w.1)
      ∙ ap (λ a. moved_as (next a fielded) len) (sym w.1)

  pub new_stopped : {number place : ℕ} → stops number place ≡ spanned (new_parts R file) → refused_as number place len ≡ moved_as (to_plain R file) len
  unfolding to_plain moved_as
  new_stopped e = ap (λ a. moved_as (next a (λ g. gives (old_form g))) len) (sym (stopped (new_parts R file) e))

  pub new_moved : {parts : Spans} → gives parts ≡ spanned (new_parts R file) → {lent : ℕ} → lent ≡ len
      → {t : Answered} → t ≡ in_room (old_form (golden_in file parts)) lent → t ≡ moved_as (to_plain R file) len
  unfolding to_plain moved_as
  new_moved {parts} e same z =
      let w = apart (new_parts R file) e in
      z ∙ ap (in_room (old_form (golden_in file parts))) same ∙ ap (λ s. in_room (old_form (golden_in file s)) len) (sym w.2) ∙ ap (λ g. in_room (old_form g) len) (new-parts R file w.0 w.1)
      ∙ ap (λ a. moved_as (next a (λ g. gives (old_form g))) len) (sym w.1)
