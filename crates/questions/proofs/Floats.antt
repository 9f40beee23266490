-- The promise on floats, over the calls of `leaf_of`: each is the one that the bits beside it stand for, its own where it is no NaN, and these
-- are the stored ones. From leaf's Patterns and Floats. Assumes nothing but bytes for input.
use mathlib.Core.Path.{refl, sym, subst, ◌∙◌}
use Prim.Native.Nat.{ℕ, ◌+◌, ◌<◌}
use mathlib.Core.Bool.{Bool, true, false, cond, not}
use mathlib.Core.List.{List}
use lib.ListN.{length}
use lib.Dec.{T, leb, ltb, eqb}
use lib.Ieee.{binary64, of_bits}
use lib.Ieee.Bits.{nan_bits_is}
use Rattle.std.specs.Prelude.{Result, Ok, Err}
use Rattle.refusals.specs.Limits.{most_bytes}
use Rattle.refusals.specs.declared.Fault.{Fault}
use Rattle.grammar.specs.Reading.{Answer, gives, stops}
use Rattle.grammar.specs.Numbered.{numbered}
use Rattle.grammar.proofs.Numbered.{numbered_injective}
use Rattle.grammar.specs.Fields.{le32, le64, not_negative}
use Rattle.grammar.specs.State.{node_at}
use Rattle.grammar.specs.Record.{sound_at}
use Rattle.grammar.specs.Leaf as definition
use Rattle.grammar.specs.Leaf.{long_of, leaf_as, leaf_of}
use Rattle.grammar.specs.Input.{Bytes}
use Rattle.leaf.specs.Answers.{told_of, answered_of}
use Rattle.leaf.specs.declared.Told.{Told}
use Rattle.leaf.proofs.Patterns.{own_bits}
use Rattle.leaf.proofs.Floats.{one_float, two_floats}
use Rattle.meaning.proofs.Sense.{long-below}
use Rattle.questions.specs.Leaves.{leaf_question}
use Rattle.questions.specs.Floats.{Stands, FloatsOf, FloatsIn, FloatPromise}

bits_stand : (bits : ℕ) → bits < 18446744073709551616 → Stands (of_bits binary64 bits) bits
bits_stand bits h = record { stands_for = refl; own_bits = λ e. own_bits bits h (subst (λ (b : Bool). T (not b)) (sym (nan_bits_is binary64 bits ∙ e)) tt) }

abbrev Standing : definition.Leaf → Type 0
Standing l = FloatsIn (Ok (told_of l))

either : {A : Type 0} (P : A → Type 0) (b : Bool) (x y : A) → P x → P y → P (cond b x y)
either P true x y p q = p
either P false x y p q = q

long-stands : (x : Bool) (m : ℕ) → Standing (long_of x m)
long-stands true m = either Standing (ltb m 9223372036854775808) _ _ tt tt
long-stands false m = either Standing (leb m 9223372036854775808) _ _ tt tt

-- of ten letters and every other, the floats of g and y stand for eight bytes each
leaf_stands : (s : List ℕ) → Bytes s → (l at : ℕ) → Standing (leaf_as s l at)
unfolding leaf_as
leaf_stands s bytes l at =
    either Standing (eqb l 0x4E) _ _ tt
    (either Standing (eqb l 0x46) _ _ tt
    (either Standing (eqb l 0x54) _ _ tt
    (either Standing (eqb l 0x2E) _ _ tt
    (either Standing (eqb l 0x53) _ _ tt
    (either Standing (eqb l 0x69) _ _ tt
    (either Standing (eqb l 0x49) _ _ tt
    (either Standing (eqb l 0x67) _ _ (bits_stand (le64 s at) (long-below s bytes at))
    (either Standing (eqb l 0x79) _ _ (bits_stand (le64 s at) (long-below s bytes at), bits_stand (le64 s (at + 8)) (long-below s bytes (at + 8)))
    (either Standing (eqb l 0x6C) _ _ (long-stands (not_negative (le32 s at)) _)
    tt)))))))))

-- the same in the documents' words
abbrev FloatsGiven : Answer Told → Type 0
FloatsGiven (gives t) = FloatsOf t.leaf t.first t.second
FloatsGiven (stops number place) = Unit

given : (r : Result Told Fault) → FloatsGiven (numbered r) → FloatsIn r
given (Ok t) h = h
given (Err f) h = tt

answer-stands : (s nodes : List ℕ) → Bytes s → (used n : ℕ) → FloatsGiven (answered_of (leaf_of s nodes used n))
unfolding leaf_of
answer-stands s nodes bytes used n =
    let P : Answer definition.Leaf → Type 0 = λ a. FloatsGiven (answered_of a) in
    either P (ltb most_bytes (length s)) _ _ tt (either P (sound_at s nodes used n) _ _ (leaf_stands s bytes (node_at nodes n).letter (node_at nodes n).place) tt)

pub float_promise : FloatPromise
float_promise =
    record {
      each-float =
          λ c.
          given c.call.result
          (subst FloatsGiven (sym c.call.meets) (answer-stands (leaf_question.input c) (leaf_question.nodes c) c.bytes (leaf_question.used c) (leaf_question.node c)));
      one_stored =
          λ c short ok is.
          numbered_injective c.call.result (Ok _)
          (c.call.meets ∙ one_float (leaf_question.input c) (leaf_question.nodes c) (leaf_question.used c) (leaf_question.node c) short ok is);
      two-stored =
          λ c short ok is.
          numbered_injective c.call.result (Ok _)
          (c.call.meets ∙ two_floats (leaf_question.input c) (leaf_question.nodes c) (leaf_question.used c) (leaf_question.node c) short ok is);
    }
