-- Whole numbers as the leaf question tells them: what it makes of `i`, of `I` and of a long is what is told of the integer that each means.
-- From the kit's laws of two's complement, by the sign. Assumes nothing.
use mathlib.Core.Path.{◌≡◌, refl, sym, ap, ◌∙◌}
use Prim.Native.Nat.{ℕ, zero, suc, ◌+◌, ◌-◌, ◌≤◌, ◌<◌}
use native.Mathlib.Omega.{arith}
use mathlib.Core.Bool.{Bool, true, false, cond, not}
use lib.IntN.{pos, negsuc}
use lib.Dec.{leb, ltb}
use borrow.Author.Tests.{lt-ltb, le-ltb, le-leb, lt-leb, leb-true, leb-false, ltb-true, ltb-false}
use mir.Syntax.{w64}
use mir.Val.{to_z}
use mir.ValLaws.{to_z_pos, to_z-neg}
use Rattle.grammar.specs.Leaf as definition
use Rattle.grammar.specs.Leaf.{extended, long_of}
use Rattle.leaf.specs.Answers as answers
use Rattle.leaf.specs.declared.Leaf.TheVariants.{Whole, Wide}
use Rattle.writing.specs.Canonical.{of_bits}
use Rattle.meaning.specs.Value.{integer}
use Rattle.questions.specs.Leaves.{told, half64, told_of}

-- Whole numbers of 64 bits, by their sign.
positive_told : (m : ℕ) → m < 9223372036854775808 → answers.told_of (definition.whole m) ≡ told_of (integer (record { negative = false; magnitude = m }))
positive_told m h =
    ap (λ z. told (Whole z) m 0) (to_z_pos w64 m h) ∙ sym (ap (λ b. cond b (told (Whole (pos m)) m 0) (told Wide 0 0)) (lt-ltb m half64 (omega arith)))

negative-told : (m bits : ℕ) → 0 < m → m ≤ 9223372036854775808 → bits ≡ 18446744073709551616 - m
    → answers.told_of (definition.whole bits) ≡ told_of (integer (record { negative = true; magnitude = m }))
negative-told zero bits p h e = absurd (omega arith)
negative-told (suc k) bits p h e =
    ap (λ b. told (Whole (to_z w64 b)) b 0) e
    ∙ (ap (λ z. told (Whole z) (18446744073709551616 - suc k) 0) (to_z-neg w64 k (omega arith))
    ∙ sym (ap (λ b. cond b (told (Whole (negsuc k)) (18446744073709551616 - suc k) 0) (told Wide 0 0)) (le-leb (suc k) half64 (omega arith))))

-- i, I and l
pub word_told : (w : ℕ) → w < 4294967296 → answers.told_of (definition.whole (extended w)) ≡ told_of (integer (of_bits 2147483648 w))
word_told w h = go (ltb w 2147483648) refl
  where
    go : (b : Bool) → ltb w 2147483648 ≡ b
        → answers.told_of (definition.whole (cond b w (18446744069414584320 + w)))
        ≡ told_of (integer (cond b (record { negative = false; magnitude = w }) (record { negative = true; magnitude = 2147483648 + 2147483648 - w })))
    go true e = positive_told w (omega (arith, ltb-true w 2147483648 e))
    go false e =
        negative-told (2147483648 + 2147483648 - w) (18446744069414584320 + w) (omega arith) (omega (arith, ltb-false w 2147483648 e)) (omega (arith, ltb-false w 2147483648 e))

pub eight-told : (b : ℕ) → b < 18446744073709551616 → answers.told_of (definition.whole b) ≡ told_of (integer (of_bits 9223372036854775808 b))
eight-told b h = go (ltb b 9223372036854775808) refl
  where
    go : (x : Bool) → ltb b 9223372036854775808 ≡ x
        → answers.told_of (definition.whole b)
        ≡ told_of (integer (cond x (record { negative = false; magnitude = b }) (record { negative = true; magnitude = 9223372036854775808 + 9223372036854775808 - b })))
    go true e = positive_told b (ltb-true b 9223372036854775808 e)
    go false e =
        negative-told (9223372036854775808 + 9223372036854775808 - b) b (omega arith) (omega (arith, ltb-false b 9223372036854775808 e)) (omega (arith, ltb-false b 9223372036854775808 e))

pub long-told : (x : Bool) (m : ℕ) → (not x ≡ true → 0 < m) → answers.told_of (long_of x m) ≡ told_of (integer (record { negative = not x; magnitude = m }))
long-told true m p = go (ltb m 9223372036854775808) refl
  where
    go : (b : Bool) → ltb m 9223372036854775808 ≡ b
        → answers.told_of (cond b (definition.whole m) definition.wide) ≡ told_of (integer (record { negative = false; magnitude = m }))
    go true e = positive_told m (ltb-true m 9223372036854775808 e)
    go false e = rw (le-ltb m half64 (omega (arith, ltb-false m 9223372036854775808 e))) refl
long-told false m p = go (leb m 9223372036854775808) refl
  where
    go : (b : Bool) → leb m 9223372036854775808 ≡ b
        → answers.told_of (cond b (definition.whole (18446744073709551616 - m)) definition.wide) ≡ told_of (integer (record { negative = true; magnitude = m }))
    go true e = negative-told m (18446744073709551616 - m) (p refl) (leb-true m 9223372036854775808 e) refl
    go false e = rw (lt-leb m half64 (omega (arith, leb-false m 9223372036854775808 e))) refl
