-- What a node is written as, by the levels that are left and by its record test. Assumes nothing.
use mathlib.Core.Path.{◌≡◌, refl, sym, ap, ◌∙◌}
use Prim.Native.Nat.{ℕ, zero, suc, ◌-◌}
use native.Mathlib.Omega.{arith}
use mathlib.Core.Bool.{true, false, cond}
use mathlib.Core.List.{List}
use Rattle.refusals.specs.Numbers.{too_deep}
use Rattle.grammar.specs.Letters.{class_of}
use Rattle.grammar.specs.Record.{Tables, holds, look, node_of}
use Rattle.writing.specs.Writing.{Writing, refused}
use Rattle.writing.specs.Shape.{classed, shape_of}
use Rattle.writing.specs.Steps.{shaped, looked, no_parts, parted, writing}
use Rattle.grammar.proofs.Tests.{never}
use Rattle.underway.specs.Rows.{out_of_levels}

-- Whether a level is left.

pub out_none : (t : Tables) (a n : ℕ) → a ≡ 0 → true ≡ out_of_levels t a n
out_none t a n e = rw e refl

pub out_more : (t : Tables) (a n : ℕ) → (a ≡ 0 → ⊥) → (a ≡ 1 → ⊥) → false ≡ out_of_levels t a n
out_more t zero n h k = absurd (h refl)
out_more t (suc zero) n h k = absurd (k refl)
out_more t (suc (suc a)) n h k = refl

-- A node by its levels and its record.

abbrev pub parts_by : Tables → (allowance node : ℕ) → ℕ → List ℕ → Writing
parts_by t zero n = no_parts n
parts_by t (suc zero) n = no_parts n
parts_by t (suc (suc a)) n = parted t a (writing a t)

pub writing-deep : (t : Tables) (a n : ℕ) → true ≡ out_of_levels t a n → writing a t n ≡ refused too_deep n
unfolding writing
writing-deep t zero n h = refl
writing-deep t (suc zero) n h = ap (λ b. cond b (refused too_deep n) (looked (writing zero t) (no_parts n) t n (look t n))) (sym h)
writing-deep t (suc (suc a)) n h = never (sym h)

pub writing-looked : (t : Tables) (a n : ℕ) → false ≡ out_of_levels t a n → writing a t n ≡ looked (writing (a - 1) t) (parts_by t a n) t n (look t n)
unfolding writing
writing-looked t zero n h = never h
writing-looked t (suc zero) n h =
    let z : 1 - 1 ≡ 0 = omega arith in
    ap (λ b. cond b (refused too_deep n) (looked (writing zero t) (no_parts n) t n (look t n))) (sym h)
writing-looked t (suc (suc a)) n h =
    let z : suc a ≡ suc (suc a) - 1 = omega arith in
    ap (λ k. looked (writing k t) (parted t a (writing a t)) t n (look t n)) z

pub writing-holds : (t : Tables) (a n : ℕ) → false ≡ out_of_levels t a n → (kids : List ℕ) → look t n ≡ holds kids
    → writing a t n ≡ shaped (writing (a - 1) t) (parts_by t a n) (classed t.input (node_of t n) kids (class_of (node_of t n).letter))
unfolding shape_of
writing-holds t a n h kids e = writing-looked t a n h ∙ ap (looked (writing (a - 1) t) (parts_by t a n) t n) e
