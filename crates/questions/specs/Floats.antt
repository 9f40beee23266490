-- The promise on the floats of `leaf_of`, over its calls. 01, 'What is lent and what is kept': "Floats carry the stored bits"; 'The shape of
-- some places': "Float(f64) and Complex(f64, f64), bits equal to the stored payload". The language has one NaN, without a payload: so the bits
-- stand beside, and they are a float's own wherever it is no NaN.
use Rattle.std.specs.Prelude.{◌≡◌, ℕ, ◌+◌, true, false, Float as Number, Result, Ok, Err}
use Rattle.refusals.specs.declared.Fault.{Fault}
use Rattle.std.specs.Float.{binary64}
use Rattle.std.specs.Float.Ieee.{of_bits, to_bits, is_nan}
use Rattle.grammar.specs.Fields.{le64}
use Rattle.leaf.specs.declared.Leaf.{Leaf}
use Rattle.leaf.specs.declared.Leaf.TheVariants.{None, Truth, Ellipsis, Stop, Whole, Float, Complex, Wide, NotLeaf}
use Rattle.leaf.specs.declared.Told.{Told}
use Rattle.questions.specs.Leaves.{told, leaf_question, node_in, Short, is_sound}

-- A float is the one that the bits beside it stand for, and its own bits are these wherever it is no NaN.
pub record Stands (x : Number) (bits : ℕ) : Type 0 where
  pub stands_for : x ≡ of_bits binary64 bits
  pub own_bits : is_nan x ≡ false → to_bits binary64 x ≡ bits

abbrev pub FloatsOf : Leaf → (first second : ℕ) → Type 0
FloatsOf NotLeaf first second = Unit
FloatsOf None first second = Unit
FloatsOf (Truth b) first second = Unit
FloatsOf Ellipsis first second = Unit
FloatsOf Stop first second = Unit
FloatsOf (Whole number) first second = Unit
FloatsOf (Float x) first second = Stands x first
FloatsOf (Complex x y) first second = Stands x first × Stands y second
FloatsOf Wide first second = Unit

abbrev pub FloatsIn : Result Told Fault → Type 0
FloatsIn (Ok t) = FloatsOf t.leaf t.first t.second
FloatsIn (Err fault) = Unit

-- the bits of eight bytes each at the node's place
abbrev pub first_stored : leaf_question.Calls → ℕ
first_stored c = le64 (leaf_question.input c) (node_in leaf_question c).place

abbrev pub second_stored : leaf_question.Calls → ℕ
second_stored c = le64 (leaf_question.input c) ((node_in leaf_question c).place + 8)

pub record FloatPromise : Type 0 where
  pub each-float : (c : leaf_question.Calls) → FloatsIn c.call.result
  -- the bits beside are the stored ones: of `g`, and of `y`
  pub one_stored : (c : leaf_question.Calls) → Short leaf_question c → is_sound leaf_question c ≡ true → (node_in leaf_question c).letter ≡ 0x67
      → c.call.result ≡ Ok (told (Float (of_bits binary64 (first_stored c))) (first_stored c) 0)
  pub two-stored : (c : leaf_question.Calls) → Short leaf_question c → is_sound leaf_question c ≡ true → (node_in leaf_question c).letter ≡ 0x79
      → c.call.result ≡ Ok (told (Complex (of_bits binary64 (first_stored c)) (of_bits binary64 (second_stored c))) (first_stored c) (second_stored c))
