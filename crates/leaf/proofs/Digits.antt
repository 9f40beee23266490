-- The number that digits stand for, counted from the last digit down: `topped` has a number above the digits that are left.
-- Assumes nothing.
use mathlib.Core.Path.{◌≡◌, refl, sym, ap, ◌∙◌}
use Prim.Native.Nat.{ℕ, zero, suc, ◌+◌, ◌-◌, ◌*◌, ◌≤◌, ◌<◌}
use mathlib.Core.Bool.{Bool, true, false, not}
use mathlib.Core.List.{List}
use native.Mathlib.Omega.{arith}
use lib.Dec.{leb}
use borrow.Author.Tests.{leb-true, leb-false, lt-leb, lt-ltb, le-ltb}
use Rattle.std.specs.Prelude.{Option, Some, None}
use Rattle.grammar.specs.Fields.{le16, le32, not_negative, digit_count}
use Rattle.grammar.specs.Leaf.{wide, magnitude, long_of, long_leaf}
use Rattle.soundness.specs.Held.{LongAt}
use Rattle.leaf.specs.Longs.{Measures}

unfoldable pub topped : List ℕ → ℕ → ℕ → ℕ → ℕ
topped s zero at top = top
topped s (suc more) at top = le16 s at + 32768 * topped s more (at + 2) top

-- nothing above
untopped : (s : List ℕ) (count at : ℕ) → topped s count at 0 ≡ magnitude s count at
unfolding topped magnitude
untopped s zero at = refl
untopped s (suc more) at = ap (λ n. le16 s at + 32768 * n) (untopped s more (at + 2))

-- the last digit goes over to what is above
last_over : (s : List ℕ) (more at top : ℕ) → topped s (suc more) at top ≡ topped s more at (le16 s (at + 2 * more) + 32768 * top)
unfolding topped
last_over s zero at top = let here : at + 2 * 0 ≡ at = omega arith in rw here
last_over s (suc more) at top =
    let there : at + 2 * suc more ≡ at + 2 + 2 * more = omega arith in
    rw there (ap (λ n. le16 s at + 32768 * n) (last_over s more (at + 2) top))

top_below : (s : List ℕ) (count at top : ℕ) → top ≤ topped s count at top
unfolding topped
top_below s zero at top = omega arith
top_below s (suc more) at top = omega (arith, top_below s more (at + 2) top)

-- a last digit that is not zero makes the number so
nonzero : (s : List ℕ) (count at : ℕ) → 0 < count → 0 < le16 s (at + 2 * (count - 1)) → 0 < magnitude s count at
nonzero s zero at some h = absurd (omega arith)
nonzero s (suc more) at some h =
    let back : suc more - 1 ≡ more = omega arith in
    let digit : 0 < le16 s (at + 2 * more) = rw back at h in
    rw (sym (untopped s (suc more) at), last_over s more at 0) (omega (arith, digit, top_below s more at (le16 s (at + 2 * more) + 32768 * 0)))

-- The digits counted so far stand above those that are left.
pub record Counting (s : List ℕ) (count at left number : ℕ) : Type 0 where
  pub fewer : left ≤ count
  pub comes : topped s left at number ≡ magnitude s count at

pub counting : (s : List ℕ) (count at : ℕ) → Counting s count at count 0
counting s count at = record { fewer = omega arith; comes = untopped s count at }

module _ {s : List ℕ} {count at left number : ℕ} (so : Counting s count at left number) where
  pub counted_all : left ≤ 0 → number ≡ magnitude s count at
  unfolding topped
  counted_all h = let none : left ≡ 0 = omega arith in rw none at so.comes

  pub one_more : {d : ℕ} → 0 < left → d ≡ le16 s (at + 2 * (left - 1)) → Counting s count at (left - 1) (d + 32768 * number)
  one_more {d} h is =
      let back : suc (left - 1) ≡ left = omega arith in
      record {
        fewer = omega (arith, so.fewer);
        comes = rw is (sym (last_over s (left - 1) at number) ∙ ap (λ k. topped s k at number) back ∙ so.comes);
      }

  pub beyond : 0 < left → 281474976710656 < number → 9223372036854775808 < magnitude s count at
  unfolding topped
  beyond h over =
      let back : suc (left - 1) ≡ left = omega arith in
      let top : number ≤ topped s (left - 1) (at + 2) number = top_below s (left - 1) (at + 2) number in
      rw (sym so.comes, sym back) (omega (arith, top, over))

-- A long number by the word that was read, its count and its magnitude.
above_wide : (t : Bool) (m : ℕ) → 9223372036854775808 < m → long_of t m ≡ wide
above_wide true m h = rw (le-ltb m 9223372036854775808 (omega arith))
above_wide false m h = rw (lt-leb m 9223372036854775808 h)

sign : (word : ℕ) → not (leb 2147483648 word) ≡ not_negative word
sign word = go (leb 2147483648 word) refl
  where
    go : (t : Bool) → leb 2147483648 word ≡ t → not t ≡ not_negative word
    go true e = sym (le-ltb word 2147483648 (leb-true 2147483648 word e))
    go false e = sym (lt-ltb word 2147483648 (leb-false 2147483648 word e))

module _ (s : List ℕ) (place word count : ℕ) (read : word ≡ le32 s place) (digits : count ≡ digit_count word) where
  pub counts : count ≡ digit_count (le32 s place)
  counts = digits ∙ ap digit_count read

  long_is : long_of (not_negative word) (magnitude s count (place + 4)) ≡ long_leaf s place
  long_is = rw (counts, read)

  module _ {r : Option ℕ} (m : Measures (magnitude s count (place + 4)) r) where
    pub long-above : r ≡ None → wide ≡ long_leaf s place
    long-above is = let over : 9223372036854775808 < magnitude s count (place + 4) = rw is at m in sym (above_wide (not_negative word) (magnitude s count (place + 4)) over) ∙ long_is

    module _ {number : ℕ} (is : r ≡ Some number) where
      same : number ≡ magnitude s count (place + 4)
      same = rw is at m

      pub long_measured : long_of (not (leb 2147483648 word)) number ≡ long_leaf s place
      long_measured = rw (sign word, same) long_is

      pub negative-some : LongAt s place → word < 4294967296 → leb 2147483648 word ≡ true → 0 < number
      negative-some held fits negative =
          let big : 2147483648 ≤ word = leb-true 2147483648 word negative in
          let minus : count ≡ 4294967296 - word = rw (le-ltb word 2147483648 big) at digits in
          let some : 0 < count = omega arith in
          rw same (nonzero s count (place + 4) some (rw (sym counts) at (held.last (rw counts at some))))
