-- What the record test's functions come to, said of plain values: a form's fields read again, and a letter that is not kept.
-- Assumes nothing.
use mathlib.Core.Path.{◌≡◌, refl, ap, ◌∙◌}
use Prim.Native.Nat.{ℕ, zero, suc, ◌-◌, ◌≤◌, ◌<◌}
use mathlib.Core.Bool.{Bool, true, false, cond, ◌&&◌}
use mathlib.Core.List.{List, [], ◌∷◌}
use mathlib.Core.Logic.{⊎_elim}
use native.Mathlib.Nat.{eq-or-lt_of_le}
use native.Mathlib.Omega.{arith}
use lib.ListN.{get_or-eq_default}
use lib.Dec.{leb, eqb}
use borrow.Author.Tests.{eq-eqb, ne_eqb}
use Rattle.wtf8.specs.Forms.{well_formed}
use Rattle.grammar.specs.Letters.{refuses, class_of, letters, found, is_string}
use Rattle.grammar.specs.Fields.{contents}
use Rattle.grammar.proofs.Lettered.{among-each}
use Rattle.soundness.specs.Texts.{too_long}
use Rattle.grammar.specs.State.{Node}
use Rattle.grammar.specs.Record.{counted, reads_as, ruled}
use Rattle.fields.specs.Classes.{classes, class_at}
use Rattle.fields.specs.Behind.{Reads, fields_of, behind_of, children_of}
use Rattle.fields.specs.declared.Behind.{Behind}
use Rattle.std.specs.Prelude.{Result, Ok, Err}
use Rattle.refusals.specs.declared.Fault.{Fault}

-- of a class that has a form, the fields are read again
form_ruled : (s : List ℕ) (n : Node) (class : ℕ) → class < 9 → reads_as (fields_of s (class_at class) n.place) n ≡ ruled s n (class_at class)
unfolding classes class_at fields_of
form_ruled s n zero h = refl
form_ruled s n (suc zero) h = refl
form_ruled s n (suc (suc zero)) h = refl
form_ruled s n (suc (suc (suc zero))) h = refl
form_ruled s n (suc (suc (suc (suc zero)))) h = refl
form_ruled s n (suc (suc (suc (suc (suc zero))))) h = refl
form_ruled s n (suc (suc (suc (suc (suc (suc zero)))))) h = refl
form_ruled s n (suc (suc (suc (suc (suc (suc (suc zero))))))) h = refl
form_ruled s n (suc (suc (suc (suc (suc (suc (suc (suc zero)))))))) h = refl
form_ruled s n (suc (suc (suc (suc (suc (suc (suc (suc (suc more))))))))) h = absurd (omega arith)

module _ (s : List ℕ) (n : Node) (class : ℕ) {r : Result Behind Fault} (form : class < 9) (reads : Reads s (class_at class) n.place r) where
  again : reads_as (behind_of r) n ≡ ruled s n (class_at class)
  again = ap (λ answer. reads_as answer n) reads.exact ∙ form_ruled s n class form

  pub again-refused : {f : Fault} → r ≡ Err f → false ≡ ruled s n (class_at class)
  again-refused is = rw is at again

  module _ {read : Behind} (is : r ≡ Ok read) where
    pub again_differs : (n.size ≡ read.size → ⊥) → false ≡ ruled s n (class_at class)
    again_differs apart = rw (is, ne_eqb n.size read.size apart) at again

    pub again-counted : {t : Bool} → n.size ≡ read.size → t ≡ counted (children_of read.kids) n.count → t ≡ ruled s n (class_at class)
    again-counted same told = told ∙ rw (is, eq-eqb n.size read.size same) at again

-- a class above the code's is not kept
pub not_kept : (s : List ℕ) (n : Node) (class : ℕ) → 13 ≤ class → false ≡ ruled s n (class_at class)
unfolding classes class_at
not_kept s n class h =
    ⊎_elim (λ (reference : 13 ≡ class). rw (← reference))
    (λ (past : 13 < class). rw (get_or-eq_default classes (refuses (class - 14)) {n = class} past)) (eq-or-lt_of_le h)

pub and-true : (t : Bool) → t ≡ (t && true)
and-true true = refl
and-true false = refl

-- a string by its letter and its contents, whichever the letter is
pub text-ruled : (s : List ℕ) (n : Node) → is_string n.letter ≡ true
    → ruled s n (class_of n.letter) ≡ (eqb n.count 0 && cond (too_long n.letter n.size) false (well_formed (contents s n.place n.size)))
unfolding class_of letters found
text-ruled s n is =
    among-each
    (λ l. ruled s n (class_of l) ≡ (eqb n.count 0 && cond (too_long l n.size) false (well_formed (contents s n.place n.size))))
    n.letter (0x75 ∷ 0x74 ∷ 0x61 ∷ 0x41 ∷ 0x7A ∷ 0x5A ∷ [])
    (any, (any, (any, (any, (few, (few, tt)))))) is
  where
    any : (eqb n.count 0 && well_formed (contents s n.place n.size))
        ≡ (eqb n.count 0 && cond (cond (leb n.size 255) false false) false (well_formed (contents s n.place n.size)))
    any = ap (λ b. eqb n.count 0 && b) (go (leb n.size 255) (well_formed (contents s n.place n.size)))
      where
        go : (t w : Bool) → w ≡ cond (cond t false false) false w
        go true w = refl
        go false w = refl

    few : (eqb n.count 0 && (leb n.size 255 && well_formed (contents s n.place n.size)))
        ≡ (eqb n.count 0 && cond (cond (leb n.size 255) false true) false (well_formed (contents s n.place n.size)))
    few = ap (λ b. eqb n.count 0 && b) (go (leb n.size 255) (well_formed (contents s n.place n.size)))
      where
        go : (t w : Bool) → (t && w) ≡ cond (cond t false true) false w
        go true w = refl
        go false w = refl
