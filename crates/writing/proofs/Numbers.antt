-- Numbers that are written as they were read: the bytes of a little-endian number are those that it stands in. Assumes nothing.
use mathlib.Core.Path.{◌≡◌, refl, sym, ap, ◌∙◌}
use Prim.Native.Nat.{ℕ, zero, suc, ◌+◌, ◌-◌, ◌*◌, ◌/◌, ◌%◌, ◌≤◌, ◌<◌}
use native.Mathlib.Omega.{arith}
use mathlib.Core.Bool.{true, false}
use mathlib.Core.List.{List, [], ◌∷◌, ◌++◌}
use lib.ListN.{length, get_or}
use lib.Seq.{slice, slice_empty, slice-cons}
use borrow.Author.Tests.{lt-ltb, le-ltb, le-leb, lt-leb}
use Rattle.grammar.specs.Fields.{le16, le32, le64, contents}
use Rattle.writing.specs.Canonical.{bytes16, bytes32, bytes64, words, of_bits, long_bytes, integer_bytes}
use Rattle.writing.specs.Shape.{numbers_at}

-- A part, byte by byte and piece by piece.

part-cons : (s : List ℕ) (at end : ℕ) → at < end → end ≤ length s → slice at end s ≡ get_or s at 0 ∷ slice (at + 1) end s
part-cons s at end h k =
    let e : suc at ≡ at + 1 = omega arith in
    slice-cons at end s 0 h k ∙ ap (λ f. get_or s at 0 ∷ slice f end s) e

-- the same, from so far into a part on
pub part_next : (s : List ℕ) (from i end : ℕ) → from + i < end → end ≤ length s
    → slice (from + i) end s ≡ get_or s (from + i) 0 ∷ slice (from + (i + 1)) end s
part_next s from i end h k =
    let e : suc (from + i) ≡ from + (i + 1) = omega arith in
    slice-cons (from + i) end s 0 h k ∙ ap (λ f. get_or s (from + i) 0 ∷ slice f end s) e

part_none : (s : List ℕ) (at end : ℕ) → at ≡ end → slice at end s ≡ []
part_none s at end e = ap (λ f. slice f end s) e ∙ slice_empty end s

pub part-append : (s : List ℕ) (at first rest : ℕ) → at + (first + rest) ≤ length s
    → contents s at (first + rest) ≡ contents s at first ++ contents s (at + first) rest
part-append s at zero rest h =
    let e : 0 + rest ≡ rest = omega arith in
    let f : at + 0 ≡ at = omega arith in
    ap (contents s at) e ∙ sym (ap (λ l. l ++ contents s (at + 0) rest) (part_none s at (at + 0) (sym f)) ∙ ap (λ k. contents s k rest) f)
part-append s at (suc first) rest h =
    let e : at + (suc first + rest) ≡ at + 1 + (first + rest) = omega arith in
    let f : at + suc first ≡ at + 1 + first = omega arith in
    part-cons s at (at + (suc first + rest)) (omega arith) h
    ∙ ap (λ end. get_or s at 0 ∷ slice (at + 1) end s) e
    ∙ ap (λ l. get_or s at 0 ∷ l) (part-append s (at + 1) first rest (omega arith))
    ∙ sym (ap (λ l. l ++ contents s (at + suc first) rest) (part-cons s at (at + suc first) (omega arith) (omega arith))
    ∙ ap (λ k. get_or s at 0 ∷ slice (at + 1) k s ++ contents s k rest) f)

-- a byte and what stands above it
above : (b r : ℕ) → b < 256 → (b + r * 256) / 256 ≡ r
above b r h = omega arith

lowest : (b r : ℕ) → b < 256 → (b + r * 256) % 256 ≡ b
lowest b r h = omega arith

module _ (s : List ℕ) (small : (i : ℕ) → get_or s i 0 < 256) where
  pub word_bytes : (at : ℕ) → at + 4 ≤ length s → bytes32 (le32 s at) ≡ contents s at 4
  word_bytes at h =
      let a = small at in
      let b = small (at + 1) in
      let c = small (at + 2) in
      let d = small (at + 3) in
      let r₂ = get_or s (at + 2) 0 + get_or s (at + 3) 0 * 256 in
      let r₁ = get_or s (at + 1) 0 + r₂ * 256 in
      let x : le32 s at ≡ get_or s at 0 + r₁ * 256 = omega arith in
      let q₁ : le32 s at / 256 ≡ r₁ = rw x (above (get_or s at 0) r₁ a) in
      let q₂ : le32 s at / 256 / 256 ≡ r₂ = rw q₁ (above (get_or s (at + 1) 0) r₂ b) in
      let q₃ : le32 s at / 256 / 256 / 256 ≡ get_or s (at + 3) 0 = rw q₂ (above (get_or s (at + 2) 0) (get_or s (at + 3) 0) c) in
      let e₀ : le32 s at % 256 ≡ get_or s at 0 = rw x (lowest (get_or s at 0) r₁ a) in
      let e₁ : le32 s at / 256 % 256 ≡ get_or s (at + 1) 0 = rw q₁ (lowest (get_or s (at + 1) 0) r₂ b) in
      let e₂ : le32 s at / 256 / 256 % 256 ≡ get_or s (at + 2) 0 = rw q₂ (lowest (get_or s (at + 2) 0) (get_or s (at + 3) 0) c) in
      let e₃ : le32 s at / 256 / 256 / 256 % 256 ≡ get_or s (at + 3) 0 = rw q₃ (omega arith) in
      let f₂ : at + 1 + 1 ≡ at + 2 = omega arith in
      let f₃ : at + 2 + 1 ≡ at + 3 = omega arith in
      let f₄ : at + 3 + 1 ≡ at + 4 = omega arith in
      let p₀ = part-cons s at (at + 4) (omega arith) h in
      let p₁ = part-cons s (at + 1) (at + 4) (omega arith) h ∙ ap (λ k. get_or s (at + 1) 0 ∷ slice k (at + 4) s) f₂ in
      let p₂ = part-cons s (at + 2) (at + 4) (omega arith) h ∙ ap (λ k. get_or s (at + 2) 0 ∷ slice k (at + 4) s) f₃ in
      let p₃ = part-cons s (at + 3) (at + 4) (omega arith) h ∙ ap (λ l. get_or s (at + 3) 0 ∷ l) (part_none s (at + 3 + 1) (at + 4) f₄) in
      cc

  pub pair_bytes : (at : ℕ) → at + 2 ≤ length s → bytes16 (le16 s at) ≡ contents s at 2
  pair_bytes at h =
      let a = small at in
      let b = small (at + 1) in
      let q₁ : le16 s at / 256 ≡ get_or s (at + 1) 0 = above (get_or s at 0) (get_or s (at + 1) 0) a in
      let e₀ : le16 s at % 256 ≡ get_or s at 0 = lowest (get_or s at 0) (get_or s (at + 1) 0) a in
      let e₁ : le16 s at / 256 % 256 ≡ get_or s (at + 1) 0 = rw q₁ (omega arith) in
      let f₂ : at + 1 + 1 ≡ at + 2 = omega arith in
      let p₀ = part-cons s at (at + 2) (omega arith) h in
      let p₁ = part-cons s (at + 1) (at + 2) (omega arith) h ∙ ap (λ l. get_or s (at + 1) 0 ∷ l) (part_none s (at + 1 + 1) (at + 2) f₂) in
      cc

  pub word_below : (at : ℕ) → le32 s at < 4294967296
  word_below at = omega (arith, small at, small (at + 1), small (at + 2), small (at + 3))

  -- the halves of a number of 64 bits
  pub low_half : (at : ℕ) → le64 s at % 4294967296 ≡ le32 s at
  low_half at = omega (arith, word_below at)

  pub high_half : (at : ℕ) → le64 s at / 4294967296 ≡ le32 s (at + 4)
  high_half at =
      let e₁ : at + 4 + 1 ≡ at + 5 = omega arith in
      let e₂ : at + 4 + 2 ≡ at + 6 = omega arith in
      let e₃ : at + 4 + 3 ≡ at + 7 = omega arith in
      rw (e₁, e₂, e₃) (omega (arith, word_below at))

  pub long_bytes_lem : (at : ℕ) → at + 8 ≤ length s → bytes64 (le64 s at) ≡ contents s at 8
  long_bytes_lem at h =
      ap (λ x. bytes32 x ++ bytes32 (le64 s at / 4294967296)) (low_half at)
      ∙ ap (λ x. bytes32 (le32 s at) ++ bytes32 x) (high_half at)
      ∙ ap (λ l. l ++ bytes32 (le32 s (at + 4))) (word_bytes at (omega arith))
      ∙ ap (λ l. contents s at 4 ++ l) (word_bytes (at + 4) (omega arith))
      ∙ sym (part-append s at 4 4 h)

  pub two_bytes : (at : ℕ) → at + 16 ≤ length s → bytes64 (le64 s at) ++ bytes64 (le64 s (at + 8)) ≡ contents s at 16
  two_bytes at h =
      ap (λ l. l ++ bytes64 (le64 s (at + 8))) (long_bytes_lem at (omega arith))
      ∙ ap (λ l. contents s at 8 ++ l) (long_bytes_lem (at + 8) (omega arith))
      ∙ sym (part-append s at 8 8 h)

  words-bytes : (at next n : ℕ) (ws : List ℕ) → next ≡ at + 4 → at + (4 + n) ≤ length s → words ws ≡ contents s next n
      → words (le32 s at ∷ ws) ≡ contents s at (4 + n)
  unfolding words
  words-bytes at next n ws e h k =
      ap (λ l. l ++ words ws) (word_bytes at (omega arith))
      ∙ ap (λ l. contents s at 4 ++ l) (k ∙ ap (λ p. contents s p n) e)
      ∙ sym (part-append s at 4 n h)

  no_words : (at : ℕ) → words [] ≡ contents s at 0
  unfolding words
  no_words at = sym (part_none s at (at + 0) (omega arith))

  pub numbers-bytes : (at : ℕ) → at + 20 ≤ length s → words (numbers_at s at) ≡ contents s at 20
  numbers-bytes at h =
      words-bytes at (at + 4) 16 _ refl (omega arith)
      (words-bytes (at + 4) (at + 8) 12 _ (omega arith) (omega arith)
      (words-bytes (at + 8) (at + 12) 8 _ (omega arith) (omega arith)
      (words-bytes (at + 12) (at + 16) 4 _ (omega arith) (omega arith)
      (words-bytes (at + 16) (at + 20) 0 _ (omega arith) (omega arith)
      (no_words (at + 20))))))

-- Integers of fixed size.

-- within signed 32 bits, by their low bits
pub small_positive : (m : ℕ) → m < 2147483648 → integer_bytes (record { negative = false; magnitude = m }) ≡ 0x69 ∷ bytes32 m
unfolding integer_bytes
small_positive m h = rw (lt-ltb m 2147483648 h) refl

pub small-negative : (m : ℕ) → m ≤ 2147483648 → integer_bytes (record { negative = true; magnitude = m }) ≡ 0x69 ∷ bytes32 (4294967296 - m)
unfolding integer_bytes
small-negative m h = rw (le-leb m 2147483648 h) refl

pub great_positive : (m : ℕ) → 2147483648 ≤ m → integer_bytes (record { negative = false; magnitude = m }) ≡ long_bytes (record { negative = false; magnitude = m })
unfolding integer_bytes
great_positive m h = rw (le-ltb m 2147483648 h) refl

pub great_negative : (m : ℕ) → 2147483648 < m → integer_bytes (record { negative = true; magnitude = m }) ≡ long_bytes (record { negative = true; magnitude = m })
unfolding integer_bytes
great_negative m h = rw (lt-leb m 2147483648 h) refl

pub not_negative : (half bits : ℕ) → bits < half → of_bits half bits ≡ record { negative = false; magnitude = bits }
not_negative half bits h = rw (lt-ltb bits half h) refl

pub is_negative : (half bits : ℕ) → half ≤ bits → of_bits half bits ≡ record { negative = true; magnitude = half + half - bits }
is_negative half bits h = rw (le-ltb bits half h) refl
