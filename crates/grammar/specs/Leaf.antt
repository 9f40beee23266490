-- The leaf question: what a node without children is. 01, 'What is lent and what is kept': "A leaf question names a node and answers none,
-- a truth value, ellipsis, stop, a 64-bit whole number, one float, two floats, "wide" .., or for every other letter "not a leaf"."
use Rattle.std.specs.Prelude.{ℕ, zero, suc, ◌+◌, ◌-◌, ◌*◌, Bool, true, false, cond, List, length, leb, ltb, eqb}
use Rattle.refusals.specs.Numbers.{input_too_long, bad_table}
use Rattle.refusals.specs.Limits.{most_bytes}
use Rattle.grammar.specs.LetterNames.{none_letter, false_letter, true_letter, stop_letter, ellipsis_letter, int_letter, int64_letter, long_letter, float_letter, complex_letter}
use Rattle.grammar.specs.Reading.{Answer, gives, stops}
use Rattle.grammar.specs.Fields.{le16, le32, le64, not_negative, digit_count}
use Rattle.grammar.specs.State.{node_at}
use Rattle.grammar.specs.Record.{sound_at}

-- A whole number is given by its 64 bits, two's complement, and a float by its stored bits: "Floats carry the stored bits."
pub data Leaf : Type 0 where
  nothingness : Leaf
  truth : Bool → Leaf
  ellipsis stop : Leaf
  whole : (bits : ℕ) → Leaf
  float : (bits : ℕ) → Leaf
  complex : (real imaginary : ℕ) → Leaf
  wide : Leaf
  not_leaf : Leaf

-- signed 32 bits as 64
abbrev pub extended : ℕ → ℕ
extended word = cond (not_negative word) word (18446744069414584320 + word)

-- the number whose 15-bit digits stand at a place, least first
unfoldable pub magnitude : List ℕ → ℕ → ℕ → ℕ
magnitude s zero at = 0
magnitude s (suc more) at = le16 s at + 32768 * magnitude s more (at + 2)

-- "wide" (a long outside signed 64 bits): below 2^63, or its negative down to -2^63, is whole.
abbrev pub long_of : Bool → ℕ → Leaf
long_of true m = cond (ltb m 9223372036854775808) (whole m) wide
long_of false m = cond (leb m 9223372036854775808) (whole (18446744073709551616 - m)) wide

abbrev pub long_leaf : List ℕ → ℕ → Leaf
long_leaf s at = long_of (not_negative (le32 s at)) (magnitude s (digit_count (le32 s at)) (at + 4))

-- N F T . S i I g y l, and every other letter
unfoldable pub leaf_as : List ℕ → (letter place : ℕ) → Leaf
leaf_as s letter at =
    cond (eqb letter none_letter) nothingness
    (cond (eqb letter false_letter) (truth false)
    (cond (eqb letter true_letter) (truth true)
    (cond (eqb letter ellipsis_letter) ellipsis
    (cond (eqb letter stop_letter) stop
    (cond (eqb letter int_letter) (whole (extended (le32 s at)))
    (cond (eqb letter int64_letter) (whole (le64 s at))
    (cond (eqb letter float_letter) (float (le64 s at))
    (cond (eqb letter complex_letter) (complex (le64 s at) (le64 s (at + 8)))
    (cond (eqb letter long_letter) (long_leaf s at)
    not_leaf)))))))))

-- "InputTooLong, tested before all", at 0; then the record as the writer tests it, 16 at the node number.
unfoldable pub leaf_of : List ℕ → List ℕ → (used n : ℕ) → Answer Leaf
leaf_of s nodes used n =
    cond (ltb most_bytes (length s)) (stops input_too_long 0)
    (cond (sound_at s nodes used n) (gives (leaf_as s (node_at nodes n).letter (node_at nodes n).place)) (stops bad_table n))
