-- Two values that were read: each answer of `judge`, and of the reading in front of it. Assumes nothing.
use mathlib.Core.Path.{◌≡◌, refl, sym, ap, ◌∙◌}
use mathlib.Core.Bool.{Bool, true, false, not}
use mathlib.Core.List.{List}
use Prim.Native.Nat.{ℕ, ◌+◌, ◌-◌, ◌≤◌, ◌<◌}
use native.Mathlib.Omega.{arith}
use lib.Dec.{eqb}
use lib.ListN.{length, get_or, take, drop, length-drop}
use lib.Seq.{length-take-le, get_or-take, get_or-drop}
use borrow.Author.Tests.{lt-ltb, le-ltb}
use Rattle.refusals.specs.Numbers.{bad_type, trailing_bytes}
use Rattle.grammar.specs.Reading.{Answer, gives, stops}
use Rattle.grammar.specs.LetterNames.{code_letter}
use Rattle.grammar.specs.Letters.{letter_of}
use Rattle.readalone.specs.Alone.{lent}
use Rattle.taggedfields.specs.declared.Span.{Span}
use Rattle.goldenparts.specs.declared.Spans.{Spans}
use Rattle.goldenparts.specs.Forms.{Golden, next, is_code, judged}
use Rattle.goldenparts.specs.Spans.{spanned, part_in, golden_in, Standing}

-- a part has its size
pub part_length : (file : List ℕ) (s : Span) → s.start + s.size ≤ length file → length (part_in file s).bytes ≡ s.size
part_length file s h = length-take-le s.size (drop s.start file) (omega (arith, length-drop s.start file))

header-byte : (file : List ℕ) (s : Span) → s.start + s.size ≤ length file → 0 < s.size → get_or (part_in file s).bytes 0 0 ≡ get_or file s.start 0
header-byte file s h k =
    let e : s.start + 0 ≡ s.start = omega arith in
    get_or-take s.size (drop s.start file) 0 0 k ∙ get_or-drop s.start file 0 0 ∙ ap (λ i. get_or file i 0) e

-- a test that is turned round
pub not-true : (b : Bool) → not b ≡ true → b ≡ false
not-true true e = sym e
not-true false e = refl

pub not-false : (b : Bool) → not b ≡ false → b ≡ true
not-false true e = refl
not-false false e = sym e

module _ (file : List ℕ) (parts : Spans) (st : Standing (length file) parts) (code result : ℕ) where
  abbrev golden : Golden
  golden = golden_in file parts

  pub code-told : 0 < parts.code.size → {h : ℕ} {r : Bool} → h ≡ get_or file parts.code.start 0 → r ≡ eqb (letter_of h) code_letter → is_code golden.code.bytes ≡ r
  code-told k {h} {r} e q = ap (λ i. eqb (letter_of i) code_letter) (header-byte file parts.code st.code_in k ∙ sym e) ∙ sym q

  code-long : length golden.code.bytes ≡ parts.code.size
  code-long = part_length file parts.code st.code_in

  result-long : length golden.result.bytes ≡ parts.result.size
  result-long = part_length file parts.result st.result_in

  pub judged-no_code : is_code golden.code.bytes ≡ false → stops bad_type parts.code.start ≡ spanned (judged golden code result)
  unfolding judged
  judged-no_code e = rw e refl

  pub judged-behind-code : is_code golden.code.bytes ≡ true → code < parts.code.size → stops trailing_bytes (parts.code.start + code) ≡ spanned (judged golden code result)
  unfolding judged
  judged-behind-code e h = rw (e, lt-ltb code (length golden.code.bytes) (omega (arith, code-long))) refl

  pub judged-behind-result : is_code golden.code.bytes ≡ true → parts.code.size ≤ code → result < parts.result.size
      → stops trailing_bytes (parts.result.start + result) ≡ spanned (judged golden code result)
  unfolding judged
  judged-behind-result e h k =
      rw (e, le-ltb code (length golden.code.bytes) (omega (arith, code-long)), lt-ltb result (length golden.result.bytes) (omega (arith, result-long))) refl

  pub judged-fine : is_code golden.code.bytes ≡ true → parts.code.size ≤ code → parts.result.size ≤ result → gives parts ≡ spanned (judged golden code result)
  unfolding judged
  judged-fine e h k =
      let named : ℕ → ℕ → Answer Spans = λ c r. gives (record { code = record { start = parts.code.start; size = c }; result = record { start = parts.result.start; size = r } }) in
      ap (λ c. named c parts.result.size) (sym code-long) ∙ ap (named (length golden.code.bytes)) (sym result-long)
      ∙ rw (e, le-ltb code (length golden.code.bytes) (omega (arith, code-long)), le-ltb result (length golden.result.bytes) (omega (arith, result-long))) refl

-- room of the same lengths
pub lent_same : {a a' b b' c c' : ℕ} (nesting : ℕ) → a ≡ a' → b ≡ b' → c ≡ c' → lent a b c nesting ≡ lent a' b' c' nesting
lent_same {a} {a'} {b} {b'} {c} {c'} nesting p q r = ap (λ i. lent i b c nesting) p ∙ ap (λ i. lent a' i c nesting) q ∙ ap (λ i. lent a' b' i nesting) r
