-- What a sound record of each class holds, and what each class is written as. Assumes nothing.
use mathlib.Core.Path.{◌≡◌, refl, sym, ap, ◌∙◌}
use Prim.Native.Nat.{ℕ, zero, suc, ◌+◌, ◌-◌, ◌*◌, ◌≤◌, ◌<◌}
use native.Mathlib.Omega.{arith}
use mathlib.Core.Bool.{Bool, true, false, cond, ◌&&◌}
use mathlib.Core.List.{List, [], ◌∷◌}
use lib.ListN.{length, get_or}
use lib.Dec.{leb, ltb, eqb}
use borrow.Author.Tests.{eq-eqb, ltb-true, ltb-false, eqb-true}
use Rattle.refusals.specs.Numbers.{unknown_type, data_too_short, invalid_bytecode}
use Rattle.grammar.specs.Reading.{Answer, gives, stops}
use Rattle.grammar.specs.Letters as letter
use Rattle.grammar.specs.Letters.{Class, keeps, contains, codes, refuses, class_of, found, letters}
use Rattle.grammar.specs.Fields.{Fields, items, span, fields, pylong, digits, last_digit, digit_count, le16, le32, le64, contents}
use Rattle.grammar.specs.State.{Node}
use Rattle.grammar.specs.Record.{sound, ruled, reads_as, counted}
use Rattle.grammar.proofs.Tests.{never, both_true}
use Rattle.grammar.proofs.Passed.{sound-ruled, code-ruled}
use Rattle.fields.specs.Classes.{classes, class_at}
use Rattle.writing.specs.Writing.{Writing, ended, emit, then, each}
use Rattle.writing.specs.Canonical.{bytes32, bytes64, sized, integer_bytes, of_bits}
use Rattle.writing.specs.Shape as shape
use Rattle.writing.specs.Shape.{long_at, classed}
use Rattle.writing.specs.Steps.{shaped}
use Rattle.writing.proofs.Numbers.{word_bytes, word_below, long_bytes_lem, two_bytes, numbers-bytes, small_positive, small-negative, not_negative, is_negative}
use Rattle.underway.specs.Rows.{closed}

-- A letter of a kept class is small.
abbrev all_small : List (ℕ × Class) → Bool
all_small [] = true
all_small (l ∷ ls) = ltb l.0 128 && all_small ls

found-small : (l : ℕ) (ls : List (ℕ × Class)) → all_small ls ≡ true → (found l ls ≡ refuses unknown_type → ⊥) → l < 128
unfolding found
found-small l [] b h = absurd (h refl)
found-small l (x ∷ ls) b h =
    go (eqb l x.0) refl (found-small l ls (both_true (ltb x.0 128) (all_small ls) b).1) h
  where
    go : (t : Bool) → eqb l x.0 ≡ t → ((found l ls ≡ refuses unknown_type → ⊥) → l < 128) → (cond t x.1 (found l ls) ≡ refuses unknown_type → ⊥) → l < 128
    go true e more h = omega (arith, eqb-true l x.0 e, ltb-true x.0 128 (both_true (ltb x.0 128) (all_small ls) b).0)
    go false e more h = more h

pub letter-small : (l : ℕ) (form : letter.Form) → class_of l ≡ keeps form → l < 128
unfolding class_of letters
letter-small l form e = found-small l letters refl (λ f. apart (sym e ∙ f))
  where
    apart : keeps form ≡ refuses unknown_type → ⊥
    apart f = let z : ◌≡◌ {A = ℕ} 0 1 = cc in omega arith

-- What a sound record of each class holds.

digits_give : (s : List ℕ) (k at : ℕ) (rest : Answer Fields) (f : Fields) → digits s k at rest ≡ gives f → rest ≡ gives f
unfolding digits
digits_give s zero at rest f e = e
digits_give s (suc k) at rest f e = go (leb (at + 2) (length s)) (ltb (le16 s at) 32768) (digits_give s k (at + 2) rest f) e
  where
    go : (t u : Bool) → (digits s k (at + 2) rest ≡ gives f → rest ≡ gives f)
        → cond t (cond u (digits s k (at + 2) rest) (stops invalid_bytecode at)) (stops data_too_short at) ≡ gives f → rest ≡ gives f
    go true true more e = more e
    go true false more e = let z : ◌≡◌ {A = ℕ} 0 1 = cc in absurd (omega arith)
    go false u more e = let z : ◌≡◌ {A = ℕ} 0 1 = cc in absurd (omega arith)

last_give : (s : List ℕ) (k at : ℕ) (rest : Answer Fields) (f : Fields) → last_digit s k at rest ≡ gives f → rest ≡ gives f
last_give s zero at rest f e = e
last_give s (suc k) at rest f e = go (eqb (le16 s (at + 2 * k)) 0) e
  where
    go : (t : Bool) → cond t (stops invalid_bytecode (at + 2 * k)) rest ≡ gives f → rest ≡ gives f
    go true e = let z : ◌≡◌ {A = ℕ} 0 1 = cc in absurd (omega arith)
    go false e = e

long-gives : (s : List ℕ) (at : ℕ) (f : Fields) → fields s letter.long at ≡ gives f → f ≡ record { place = at; size = f.size; children = items 0 }
unfolding fields pylong
long-gives s at f e = go (leb (at + 4) (length s)) e
  where
    is : (m : ℕ) → span at m (items 0) ≡ gives f → f ≡ record { place = at; size = f.size; children = items 0 }
    is m h =
        let g : record { place = at; size = m; children = items 0 } ≡ f = cc in
        sym g ∙ ap (λ k. record { place = at; size = k; children = items 0 }) (ap (λ (x : Fields). x.size) g)

    go : (t : Bool) → cond t (pylong s at (digit_count (le32 s at))) (stops data_too_short at) ≡ gives f → f ≡ record { place = at; size = f.size; children = items 0 }
    go true e =
        let k = digit_count (le32 s at) in
        is (4 + 2 * k) (last_give s k (at + 4) (span at (4 + 2 * k) (items 0)) f (digits_give s k (at + 4) (last_digit s k (at + 4) (span at (4 + 2 * k) (items 0))) f e))
    go false e = let z : ◌≡◌ {A = ℕ} 0 1 = cc in absurd (omega arith)

abbrev after12 : ℕ → ℕ
after12 k = suc (suc (suc (suc (suc (suc (suc (suc (suc (suc (suc (suc k)))))))))))

module _ (s : List ℕ) (n : Node) (ok : sound s n ≡ true) where
  rules : ruled s n (class_of n.letter) ≡ true
  rules = (sound-ruled s n ok).1

  pub sound-within : n.place + n.size ≤ length s
  sound-within = (sound-ruled s n ok).0

  -- a long, read again
  pub long-read : class_of n.letter ≡ keeps letter.long → fields s letter.long n.place ≡ span n.place n.size (items 0)
  long-read is = go (fields s letter.long n.place) refl (sym (ap (ruled s n) is) ∙ rules)
    where
      go : (x : Answer Fields) → fields s letter.long n.place ≡ x → reads_as x n ≡ true → fields s letter.long n.place ≡ span n.place n.size (items 0)
      go (stops number place) e r = never r
      go (gives f) e r =
          let z : n.size ≡ f.size = eqb-true n.size f.size (both_true (eqb n.size f.size) (counted f.children n.count) r).0 in
          e ∙ ap gives (long-gives s n.place f e) ∙ ap (λ m. span n.place m (items 0)) (sym z)

  pub code_numbers_lem : class_of n.letter ≡ codes → n.place + 20 ≤ length s
  code_numbers_lem is = omega (arith, sound-within, (code-ruled s n (sym (ap (ruled s n) is) ∙ rules)).numbers)

  -- whatever is none of the first twelve classes is a code
  pub code_else : (class : ℕ) → 12 ≤ class → class_at class ≡ class_of n.letter → class_of n.letter ≡ codes
  unfolding class_at classes
  code_else class h is = go class h (ap (ruled s n) is ∙ rules) is
    where
      kept : (k : ℕ) → ruled s n (class_at (after12 k)) ≡ true → class_at (after12 k) ≡ codes
      kept zero r = refl
      kept (suc zero) r = never r
      kept (suc (suc k)) r = never r

      go : (class : ℕ) → 12 ≤ class → ruled s n (class_at class) ≡ true → class_at class ≡ class_of n.letter → class_of n.letter ≡ codes
      go class h r e =
          let z : after12 (class - 12) ≡ class = omega arith in
          sym e ∙ sym (ap class_at z) ∙ kept (class - 12) (ap (λ k. ruled s n (class_at k)) z ∙ r)

-- What each class is written as.
module _ (s : List ℕ) (small : (i : ℕ) → get_or s i 0 < 256) (n : Node) where
  integer_four : n.place + 4 ≤ length s → integer_bytes (of_bits 2147483648 (le32 s n.place)) ≡ 0x69 ∷ contents s n.place 4
  integer_four h = go (ltb (le32 s n.place) 2147483648) refl ∙ ap (λ bs. 0x69 ∷ bs) (word_bytes s small n.place h)
    where
      go : (t : Bool) → ltb (le32 s n.place) 2147483648 ≡ t → integer_bytes (of_bits 2147483648 (le32 s n.place)) ≡ 0x69 ∷ bytes32 (le32 s n.place)
      go true e =
          let l = ltb-true (le32 s n.place) 2147483648 e in
          ap integer_bytes (not_negative 2147483648 (le32 s n.place) l) ∙ small_positive (le32 s n.place) l
      go false e =
          let l = ltb-false (le32 s n.place) 2147483648 e in
          let b = word_below s small n.place in
          let z : 4294967296 - (4294967296 - le32 s n.place) ≡ le32 s n.place = omega arith in
          ap integer_bytes (is_negative 2147483648 (le32 s n.place) l) ∙ small-negative (4294967296 - le32 s n.place) (omega arith) ∙ ap (λ x. 0x69 ∷ bytes32 x) z

  module _ (f : ℕ → Writing) (g : ℕ → List ℕ → Writing) (kids : List ℕ) where
    abbrev own : Class → Writing
    own c = shaped f g (classed s n kids c)

    pub as_single : {class : Class} → class ≡ keeps letter.single → own class ≡ emit (n.letter ∷ []) ended
    as_single e = ap own e

    pub as_four : {class : Class} → class ≡ keeps (letter.fixed 4) → n.place + 4 ≤ length s → own class ≡ emit (0x69 ∷ contents s n.place 4) ended
    as_four e h = ap own e ∙ ap (λ bs. emit bs ended) (integer_four h)

    pub as_eight : {class : Class} → class ≡ keeps (letter.fixed 8)
        → own class ≡ emit (cond (eqb n.letter 0x67) (0x67 ∷ bytes64 (le64 s n.place)) (integer_bytes (of_bits 9223372036854775808 (le64 s n.place)))) ended
    as_eight e = ap own e ∙ go (eqb n.letter 0x67)
      where
        go : (t : Bool) → shaped f g (cond t (shape.float (le64 s n.place)) (shape.integer (of_bits 9223372036854775808 (le64 s n.place))))
            ≡ emit (cond t (0x67 ∷ bytes64 (le64 s n.place)) (integer_bytes (of_bits 9223372036854775808 (le64 s n.place)))) ended
        go true = refl
        go false = refl

    pub as_double : {class : Class} → class ≡ keeps letter.double → n.place + 16 ≤ length s → own class ≡ emit (0x79 ∷ contents s n.place 16) ended
    as_double e h = ap own e ∙ ap (λ bs. emit (0x79 ∷ bs) ended) (two_bytes s small n.place h)

    pub as_long : {class : Class} → class ≡ keeps letter.long → own class ≡ emit (integer_bytes (long_at s n.place)) ended
    as_long e = ap own e

    pub as_bytes : {class : Class} → class ≡ contains letter.bytes → own class ≡ emit (sized 0x73 (contents s n.place n.size)) ended
    as_bytes e = ap own e

    pub as_text : {class : Class} → class ≡ contains letter.text → own class ≡ emit (sized 0x75 (contents s n.place n.size)) ended
    as_text e = ap own e

    pub as_short : {class : Class} → class ≡ contains letter.short → own class ≡ emit (sized 0x75 (contents s n.place n.size)) ended
    as_short e = ap own e

    pub as_sequence : {class : Class} → class ≡ keeps letter.sequence → length kids ≡ n.count → own class ≡ then (emit (n.letter ∷ bytes32 n.count) ended) (each f kids)
    unfolding then
    as_sequence e l = ap own e ∙ ap (λ k. emit (n.letter ∷ bytes32 k) (each f kids)) l

    pub as_few : {class : Class} → class ≡ keeps letter.few → length kids ≡ n.count → own class ≡ then (emit (0x28 ∷ bytes32 n.count) ended) (each f kids)
    unfolding then
    as_few e l = ap own e ∙ ap (λ k. emit (0x28 ∷ bytes32 k) (each f kids)) l

    pub as_slice : {class : Class} → class ≡ keeps letter.slice → own class ≡ then (emit (0x3A ∷ []) ended) (each f kids)
    unfolding then
    as_slice e = ap own e

    pub as_dict : {class : Class} → class ≡ keeps letter.dict → own class ≡ then (emit (0x7B ∷ []) ended) (then (each f kids) (closed true))
    unfolding then
    as_dict e = ap own e

    pub as_code : {class : Class} → class ≡ codes → n.place + 20 ≤ length s → own class ≡ then (emit (0x63 ∷ contents s n.place 20) ended) (g (le32 s (n.place + n.size)) kids)
    unfolding then
    as_code e h = ap own e ∙ ap (λ bs. emit (0x63 ∷ bs) (g (le32 s (n.place + n.size)) kids)) (numbers-bytes s small n.place h)

  pub float-eight : (l : ℕ) → l ≡ 0x67 → n.place + 8 ≤ length s
      → cond (eqb l 0x67) (0x67 ∷ bytes64 (le64 s n.place)) (integer_bytes (of_bits 9223372036854775808 (le64 s n.place))) ≡ 0x67 ∷ contents s n.place 8
  float-eight l e h =
      ap (λ t. cond t (0x67 ∷ bytes64 (le64 s n.place)) (integer_bytes (of_bits 9223372036854775808 (le64 s n.place)))) (eq-eqb l 0x67 e)
      ∙ ap (λ bs. 0x67 ∷ bs) (long_bytes_lem s small n.place h)
