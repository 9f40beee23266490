-- One answer for each call of the functions of `fields`: the number, by an equation, or the answer in the grammar's words.
use mathlib.Core.Path.{◌≡◌, refl, ◌∙◌, ap}
use Prim.Native.Nat.{ℕ, zero, suc, ◌+◌, ◌-◌, ◌≤◌}
use mathlib.Core.Bool.{cond}
use mathlib.Core.List.{List, [], ◌∷◌}
use lib.ListN.{get_or}
use lib.Dec.{eqb}
use native.Mathlib.Omega.{arith}
use Rattle.grammar.specs.Reading.{Answer, gives, stops}
use Rattle.grammar.specs.Letters.{Class, refers, keeps, contains, codes, refuses, single, fixed, double, long, sequence, few, slice, dict, bytes, text, short}
use Rattle.grammar.specs.Fields.{Fields, Children, items, pairs, parts}
use Rattle.fields.specs.Classes.{classes, class_at, refused_from}
use Rattle.fields.specs.Behind.{children_of, behind_of}
use Rattle.fields.specs.declared.Kids.{Kids}
use Rattle.fields.specs.declared.Kids.TheVariants as kids
use Rattle.fields.specs.declared.Behind.{Behind}
use Rattle.std.specs.Prelude.{Result, Ok, Err}
use Rattle.refusals.specs.declared.Fault.{Fault}
use Rattle.refusals.proofs.Faults.{fault_at, fault_back}
use Rattle.fields.proofs as fields
use Rattle.fields.specs.contracts as fields_contracts
use Rattle.agreement.specs.Agreement.{Agree}
use Rattle.agreement.proofs.Same.{one, retold}

-- The number of a class, and that no two numbers are of one class.
abbrev number_of : Class → ℕ
number_of (keeps single) = 0
number_of (keeps (fixed size)) = cond (eqb size 4) 1 2
number_of (keeps double) = 3
number_of (keeps long) = 4
number_of (keeps sequence) = 5
number_of (keeps few) = 6
number_of (keeps slice) = 7
number_of (keeps dict) = 8
number_of (contains bytes) = 9
number_of (contains text) = 10
number_of (contains short) = 11
number_of codes = 12
number_of refers = 13
number_of (refuses number) = refused_from + number

-- classes that stand in the order of their numbers, from one on, up to those that are refused
abbrev Numbered : ℕ → List Class → Type 0
Numbered from [] = refused_from ≤ from
Numbered from (c ∷ cs) = (number_of c ≡ from) × Numbered (suc from) cs

numbered_at : (from : ℕ) (cs : List Class) → Numbered from cs → (n k : ℕ) → k ≡ from + n → number_of (get_or cs n (refuses (k - refused_from))) ≡ k
numbered_at from [] h n k e = omega (arith, h, e)
numbered_at from (c ∷ cs) h zero k e = h.0 ∙ omega (arith, e)
numbered_at from (c ∷ cs) h (suc n) k e = numbered_at (suc from) cs h.1 n k (omega (arith, e))

class_back : (n : ℕ) → number_of (class_at n) ≡ n
unfolding class_at classes
class_back n = numbered_at 0 classes (refl, (refl, (refl, (refl, (refl, (refl, (refl, (refl, (refl, (refl, (refl, (refl, (refl, (refl, omega arith)))))))))))))) n n (omega arith)

-- the answer, from the grammar's words back
abbrev pub kids_from : Children → Kids
kids_from (items count) = kids.Items count
kids_from pairs = kids.Pairs
kids_from parts = kids.Parts

pub kids_back : (k : Kids) → kids_from (children_of k) ≡ k
kids_back (kids.Items count) = refl
kids_back kids.Pairs = refl
kids_back kids.Parts = refl

abbrev behind_from : Answer Fields → Result Behind Fault
behind_from (gives f) = Ok (record { place = f.place; size = f.size; kids = kids_from f.children })
behind_from (stops number place) = Err (fault_at number place)

behind_back : (r : Result Behind Fault) → behind_from (behind_of r) ≡ r
behind_back (Ok b) = ap (λ k. Ok (record { place = b.place; size = b.size; kids = k })) (kids_back b.kids)
behind_back (Err f) = ap (λ (g : Fault). Err g) (fault_back f)

pub le16-agrees : Agree fields_contracts.le16.ended fields.le16.Reads.Asked fields.le16.Reads.Learnt
le16-agrees κs a asked r r' ws ws' p p' = (one p.0 p'.0, refl)

pub le32-agrees : Agree fields_contracts.le32.ended fields.le32.Reads.Asked fields.le32.Reads.Learnt
le32-agrees κs a asked r r' ws ws' p p' = (one p p', refl)

pub le64-agrees : Agree fields_contracts.le64.ended fields.le64.Reads.Asked fields.le64.Reads.Learnt
le64-agrees κs a asked r r' ws ws' p p' = (one p p', refl)

pub class_of-agrees : Agree fields_contracts.class_of.ended fields.class_of.Reads.Asked fields.class_of.Reads.Learnt
class_of-agrees κs a asked r r' ws ws' p p' = (retold class_at number_of class_back p p', refl)

pub class_at-agrees : Agree fields_contracts.class_at.ended fields.class_at.Reads.Asked fields.class_at.Reads.Learnt
class_at-agrees κs a asked r r' ws ws' p p' = (retold class_at number_of class_back p p', refl)

pub refusal_of-agrees : Agree fields_contracts.refusal_of.ended fields.refusal_of.Reads.Asked fields.refusal_of.Reads.Learnt
refusal_of-agrees κs a asked r r' ws ws' p p' = (one p p', refl)

pub digit_count-agrees : Agree fields_contracts.digit_count.ended fields.digit_count.Reads.Asked fields.digit_count.Reads.Learnt
digit_count-agrees κs a asked r r' ws ws' p p' = (one p.0 p'.0, refl)

pub argument_sum-agrees : Agree fields_contracts.argument_sum.ended fields.argument_sum.Reads.Asked fields.argument_sum.Reads.Learnt
argument_sum-agrees κs a asked r r' ws ws' p p' = (one p p', refl)

pub read_form_agrees : Agree fields_contracts.read_form.ended fields.read_form.Reads.Asked fields.read_form.Reads.Learnt
read_form_agrees κs a asked r r' ws ws' p p' = (retold behind_of behind_from behind_back p.exact p'.exact, refl)

pub read-fields-agrees : Agree fields_contracts.read_fields.ended fields.read_fields.Reads.Asked fields.read_fields.Reads.Learnt
read-fields-agrees κs a asked r r' ws ws' p p' = (retold behind_of behind_from behind_back p.exact p'.exact, refl)

pub read-fixed-agrees : Agree fields_contracts.read_fixed.ended fields.read_fixed.Reads.Asked fields.read_fixed.Reads.Learnt
read-fixed-agrees κs a asked r r' ws ws' p p' = (retold behind_of behind_from behind_back p.exact p'.exact, refl)

pub read-bytes-agrees : Agree fields_contracts.read_bytes.ended fields.read_bytes.Reads.Asked fields.read_bytes.Reads.Learnt
read-bytes-agrees κs a asked r r' ws ws' p p' = (retold behind_of behind_from behind_back p.exact p'.exact, refl)

pub read-text-agrees : Agree fields_contracts.read_text.ended fields.read_text.Reads.Asked fields.read_text.Reads.Learnt
read-text-agrees κs a asked r r' ws ws' p p' = (retold behind_of behind_from behind_back p.exact p'.exact, refl)

pub read-short-agrees : Agree fields_contracts.read_short.ended fields.read_short.Reads.Asked fields.read_short.Reads.Learnt
read-short-agrees κs a asked r r' ws ws' p p' = (retold behind_of behind_from behind_back p.exact p'.exact, refl)
