-- Integers as they are put: the digits of a number one after another, integers of 64 bits, and longs. Assumes nothing.
use mathlib.Core.Path.{◌≡◌, refl, sym, ap, ◌∙◌}
use Prim.Native.Nat.{ℕ, zero, suc, ◌+◌, ◌-◌, ◌*◌, ◌/◌, ◌%◌, ◌≤◌, ◌<◌}
use native.Mathlib.Omega.{arith}
use mathlib.Core.Bool.{Bool, true, false, not}
use mathlib.Core.List.{List, ◌∷◌, ◌++◌}
use lib.ListN.{length, get_or, set}
use lib.Seq.{sets, length-sets}
use lib.Dec.{ltb}
use borrow.Author.Tests.{lt-ltb, le-ltb}
use Rattle.refusals.specs.Faults.{fault}
use Rattle.refusals.specs.declared.Fault.{Fault}
use Rattle.refusals.specs.declared.Refusal.TheVariants.{NoRoom}
use Rattle.grammar.specs.Letters as letter
use Rattle.grammar.specs.Fields.{contents, le16, le32, fields, span, items, digit_count}
use Rattle.grammar.specs.Leaf.{magnitude}
use Rattle.writing.specs.Writing.{ended, emit}
use Rattle.writing.specs.Canonical.{bytes16, bytes32, of_bits, bits_of, digits_of, digit_bytes, long_bytes, integer_bytes}
use Rattle.writing.specs.Shape.{long_at}
use Rattle.writing.proofs.Numbers.{small_positive, small-negative, great_positive, great_negative, not_negative, is_negative}
use Rattle.writing.proofs.Digits.{digit_bytes-length, digits_none, digits-next, long-within, long-counted, long_as_stored, many-digits, negative-above}
use Rattle.output.specs.Puts.{Puts}
use Rattle.output.proofs.Laws.{full, placed, sets-append, sets-sized}
use Rattle.std.specs.Prelude.{Ok, Err}

-- The digits of a number, two bytes each.

-- some digits are stored, and those of what is left of the number still come to the same output
pub record Digiting (o₀ : List ℕ) (at m : ℕ) (o : List ℕ) (left place : ℕ) : Type 0 where
  pub same : length o ≡ length o₀
  pub room : place + 2 * length (digits_of left) ≤ length o
  pub comes : sets o place (digit_bytes (digits_of left)) ≡ sets o₀ at (digit_bytes (digits_of m))

pub digiting_none : {o₀ : List ℕ} {at m : ℕ} → at + 2 * length (digits_of m) ≤ length o₀ → Digiting o₀ at m o₀ m at
digiting_none h = record { same = refl; room = h; comes = refl }

pub digiting_room : {o₀ : List ℕ} {at m : ℕ} {o : List ℕ} {left place : ℕ} → Digiting o₀ at m o left place → 0 < left → place + 2 ≤ length o
digiting_room {o₀} {at} {m} {o} {left} {place} k h = omega (arith, k.room, ap length (digits-next left h))

pub digiting_more : {o₀ : List ℕ} {at m : ℕ} {o o' : List ℕ} {left place : ℕ} → Digiting o₀ at m o left place → 0 < left
    → o' ≡ sets o place (bytes16 (left % 32768)) → Digiting o₀ at m o' (left / 32768) (place + 2)
unfolding digit_bytes
digiting_more {o₀} {at} {m} {o} {o'} {left} {place} k h e =
    let n = digits-next left h in
    let d = bytes16 (left % 32768) in
    let rest = digit_bytes (digits_of (left / 32768)) in
    let u : length o' ≡ length o = ap length e ∙ length-sets o place d in
    record {
      same = u ∙ k.same;
      room = omega (arith, k.room, ap length n, u);
      comes = ap (λ x. sets x (place + 2) rest) e ∙ sets-append o place d rest ∙ ap (λ ds. sets o place (digit_bytes ds)) (sym n) ∙ k.comes;
    }

pub digiting_all : {o₀ : List ℕ} {at m : ℕ} {o : List ℕ} {left place : ℕ} → Digiting o₀ at m o left place → left ≤ 0
    → o ≡ sets o₀ at (digit_bytes (digits_of m))
unfolding digit_bytes
digiting_all {o₀} {at} {m} {o} {left} {place} k h =
    let z : left ≡ 0 = omega arith in
    sym (ap (λ l. sets o place (digit_bytes (digits_of l))) z ∙ ap (λ ds. sets o place (digit_bytes ds)) digits_none) ∙ k.comes

module _ (o : List ℕ) (at : ℕ) (negative : Bool) (m count : ℕ) (is : count ≡ length (digits_of m)) where
  abbrev whole : List ℕ
  whole = long_bytes (record { negative = negative; magnitude = m })

  whole_length : length whole ≡ 5 + 2 * count
  whole_length = omega (arith, digit_bytes-length (digits_of m), is)

  pub digits_full : {n : ℕ} → at ≤ length o → length o < at + (5 + 2 * count) → n ≡ length o → {stop : Fault} → stop ≡ fault NoRoom n
      → Puts (emit whole ended) at o (Err stop) o
  digits_full k l e is = full k (omega (arith, whole_length)) e is

  pub digits-placed : {o₁ o₂ : List ℕ} {w : ℕ} → at + 5 + 2 * count ≤ length o → w ≡ bits_of 4294967296 (record { negative = negative; magnitude = count })
      → o₁ ≡ sets (set o at 0x6C) (at + 1) (bytes32 w) → o₂ ≡ sets o₁ (at + 5) (digit_bytes (digits_of m))
      → Puts (emit whole ended) at o (Ok (at + 5 + 2 * count)) o₂
  digits-placed {o₁} {o₂} {w} l u e f =
      let v : w ≡ bits_of 4294967296 (record { negative = negative; magnitude = length (digits_of m) }) =
      u ∙ ap (λ n. bits_of 4294967296 (record { negative = negative; magnitude = n })) is in
      let q : o₂ ≡ sets o at whole =
      sets-sized o at 0x6C w (digit_bytes (digits_of m)) e f ∙ ap (λ x. sets o at ((0x6C ∷ bytes32 x) ++ digit_bytes (digits_of m))) v in
      placed (omega (arith, whole_length)) (omega (arith, whole_length)) q

-- Integers of 64 bits.
module _ (bits : ℕ) where
  pub int64_low : bits < 2147483648 → integer_bytes (of_bits 9223372036854775808 bits) ≡ 0x69 ∷ bytes32 bits
  int64_low l = ap integer_bytes (not_negative 9223372036854775808 bits (omega arith)) ∙ small_positive bits l

  pub int64_high : 18446744071562067968 ≤ bits → bits < 18446744073709551616
      → integer_bytes (of_bits 9223372036854775808 bits) ≡ 0x69 ∷ bytes32 (bits % 4294967296)
  int64_high l b =
      let e : 4294967296 - (18446744073709551616 - bits) ≡ bits % 4294967296 = omega arith in
      ap integer_bytes (is_negative 9223372036854775808 bits (omega arith))
      ∙ small-negative (18446744073709551616 - bits) (omega arith) ∙ ap (λ x. 0x69 ∷ bytes32 x) e

  pub int64_positive : 2147483648 ≤ bits → bits < 9223372036854775808
      → integer_bytes (of_bits 9223372036854775808 bits) ≡ long_bytes (record { negative = false; magnitude = bits })
  int64_positive k l = ap integer_bytes (not_negative 9223372036854775808 bits l) ∙ great_positive bits k

  pub int64_negative : 9223372036854775808 ≤ bits → bits < 18446744071562067968
      → integer_bytes (of_bits 9223372036854775808 bits) ≡ long_bytes (record { negative = true; magnitude = 18446744073709551615 - bits + 1 })
  int64_negative k l =
      let e : 18446744073709551616 - bits ≡ 18446744073709551615 - bits + 1 = omega arith in
      ap integer_bytes (is_negative 9223372036854775808 bits k)
      ∙ great_negative (18446744073709551616 - bits) (omega arith) ∙ ap (λ m. long_bytes (record { negative = true; magnitude = m })) e

-- Longs.

-- up to three digits
pub digits_0 : (s : List ℕ) (count at : ℕ) → count ≡ 0 → 0 ≡ magnitude s count at
unfolding magnitude
digits_0 s count at e = rw e refl

pub digits_1 : (s : List ℕ) (count at : ℕ) {a : ℕ} → count ≡ 1 → a ≡ le16 s at → a ≡ magnitude s count at
unfolding magnitude
digits_1 s count at e f = rw e (f ∙ omega arith)

pub digits_2 : (s : List ℕ) (count at : ℕ) {a b : ℕ} → count ≡ 2 → a ≡ le16 s at → b ≡ le16 s (at + 2) → a + 32768 * b ≡ magnitude s count at
unfolding magnitude
digits_2 s count at e f g = rw (e, f, g) (omega arith)

pub digits_3 : (s : List ℕ) (count at : ℕ) {a b c : ℕ} → count ≤ 3 → (count ≡ 0 → ⊥) → (count ≡ 1 → ⊥) → (count ≡ 2 → ⊥) → a ≡ le16 s at → b ≡ le16 s (at + 2) → c ≡ le16 s (at + 2 + 2)
    → a + 32768 * (b + 32768 * c) ≡ magnitude s count at
unfolding magnitude
digits_3 s zero at h n₀ n₁ n₂ e f g = absurd (n₀ refl)
digits_3 s (suc zero) at h n₀ n₁ n₂ e f g = absurd (n₁ refl)
digits_3 s (suc (suc zero)) at h n₀ n₁ n₂ e f g = absurd (n₂ refl)
digits_3 s (suc (suc (suc zero))) at h n₀ n₁ n₂ e f g = rw (e, f, g) (omega arith)
digits_3 s (suc (suc (suc (suc k)))) at h n₀ n₁ n₂ e f g = absurd (omega arith)

module _ (s : List ℕ) (small : (i : ℕ) → get_or s i 0 < 256) (at size : ℕ) (sound : fields s letter.long at ≡ span at size (items 0)) where
  abbrev count : ℕ
  count = digit_count (le32 s at)

  pub long-few : size ≤ 10 → (4 ≤ size) × ((size - 4) / 2 ≤ 3) × (at + 4 + 2 * ((size - 4) / 2) ≤ length s)
  long-few h = let c = long-counted s small at size sound in let w = long-within s small at size sound in (omega arith, omega arith, omega arith)

  counted : (size - 4) / 2 ≡ count
  counted = let c = long-counted s small at size sound in omega arith

  pub long-many : 10 < size → integer_bytes (long_at s at) ≡ 0x6C ∷ contents s at size
  long-many h =
      let c = long-counted s small at size sound in
      let m = many-digits s small at size sound (omega arith) in
      great (ltb (le32 s at) 2147483648) (magnitude s count (at + 4)) m ∙ long_as_stored s small at size sound
    where
      great : (t : Bool) (m : ℕ) → 35184372088832 ≤ m
          → integer_bytes (record { negative = not t; magnitude = m }) ≡ long_bytes (record { negative = not t; magnitude = m })
      great true m h = great_positive m (omega arith)
      great false m h = great_negative m (omega arith)

  module _ {value : ℕ} (is : value ≡ magnitude s ((size - 4) / 2) (at + 4)) where
    is' : value ≡ magnitude s count (at + 4)
    is' = is ∙ ap (λ k. magnitude s k (at + 4)) counted

    signs : (t : Bool) → ltb (le32 s at) 2147483648 ≡ t → long_at s at ≡ record { negative = not t; magnitude = value }
    signs t e =
        ap (λ u. record { negative = not u; magnitude = magnitude s count (at + 4) }) e ∙ ap (λ m. record { negative = not t; magnitude = m }) (sym is')

    pub long_positive : le32 s at < 2147483648 → value < 2147483648 → integer_bytes (long_at s at) ≡ 0x69 ∷ bytes32 value
    long_positive h l = ap integer_bytes (signs true (lt-ltb (le32 s at) 2147483648 h)) ∙ small_positive value l

    pub long_great : le32 s at < 2147483648 → 2147483648 ≤ value → integer_bytes (long_at s at) ≡ 0x6C ∷ contents s at size
    long_great h l =
        let e = signs true (lt-ltb (le32 s at) 2147483648 h) in
        ap integer_bytes e ∙ great_positive value l ∙ ap long_bytes (sym e) ∙ long_as_stored s small at size sound

    pub long-negative : 2147483648 ≤ le32 s at → value ≤ 2147483648 → integer_bytes (long_at s at) ≡ 0x69 ∷ bytes32 (4294967295 - value + 1)
    long-negative h l =
        let f : 4294967296 - value ≡ 4294967295 - value + 1 = omega arith in
        ap integer_bytes (signs false (le-ltb (le32 s at) 2147483648 h)) ∙ small-negative value l ∙ ap (λ x. 0x69 ∷ bytes32 x) f

    pub long_less : 2147483648 ≤ le32 s at → 2147483648 < value → integer_bytes (long_at s at) ≡ 0x6C ∷ contents s at size
    long_less h l =
        let e = signs false (le-ltb (le32 s at) 2147483648 h) in
        ap integer_bytes e ∙ great_negative value l ∙ ap long_bytes (sym e) ∙ long_as_stored s small at size sound

    pub long-above : 2147483648 ≤ le32 s at → 0 < value
    long-above h = omega (arith, is', negative-above s small at size sound h)
