-- DEMAND 3: both readers give the plain reading's answer where all four counts fit, and the first room refusal otherwise; more room changes no
-- other answer, and bytes at the end only refusals 1 and 2. From grammar's Exactness, Contents and Appended. And what meets demand 3 gives the
-- definition's own answer, whatever reader it is. Assumes nothing.
use mathlib.Core.Path.{◌≡◌, refl, sym, ap, subst, ◌∙◌}
use Prim.Native.Nat.{◌≤◌}
use mathlib.Core.Bool.{Bool, true, false}
use lib.Dec.{ltb}
use lib.ListN.{length}
use borrow.Author.Tests.{ltb-true, ltb-false}
use Rattle.refusals.specs.Limits.{most_bytes}
use Rattle.grammar.specs.Answer.{outcome_of, reading, answered, read_of}
use Rattle.grammar.specs.Counted.{Widened}
use Rattle.grammar.proofs.Exactness.{too_long, exact_where_it_fits, first_over-refuses, FourOrOver, four, short as over, four_or_over}
use Rattle.grammar.proofs.Contents.{more_room_same_stores}
use Rattle.grammar.proofs.Appended.{appended_same_outcome}
use Rattle.promises.specs.Calls.{Reader, deserialize_value, sill_read}
use Rattle.promises.specs.Demand3.{room_in, EndsIn, fits, short, Demand3}
use Rattle.promises.proofs.Reading.{Exactly, deserialize_exactly, sill_read_exactly}

module _ (R : Reader) (exactly : Exactly R) where
  -- the definition's answer at a call
  at : (c : R.Calls) → (R.ends c).answer ≡ answered (reading (R.input c) (R.nodes c) (R.entries c) (R.slots c) (R.nesting c))
  unfolding read_of
  at c = ap (λ o. o.answer) (exactly c)

  of : (c : R.Calls) → R.ends c ≡ outcome_of (R.nodes c) (R.entries c) (R.slots c) (reading (R.input c) (R.nodes c) (R.entries c) (R.slots c) (R.nesting c))
  unfolding read_of
  of c = exactly c

  ends_in : (c : R.Calls) → length (R.input c) ≤ most_bytes → FourOrOver (R.input c) (room_in R c) → EndsIn R c
  ends_in c small (four f) =
      fits f
      (of c
      ∙ ap (outcome_of (R.nodes c) (R.entries c) (R.slots c)) (exact_where_it_fits (R.input c) (R.nodes c) (R.entries c) (R.slots c) (R.nesting c) small f))
  ends_in c small (over not o) =
      short not o
      (of c
      ∙ ap (outcome_of (R.nodes c) (R.entries c) (R.slots c)) (first_over-refuses (R.input c) (R.nodes c) (R.entries c) (R.slots c) (R.nesting c) small o))

  demanded : Demand3 R
  demanded =
      record {
        exact_or_first = λ c small. ends_in c small (four_or_over (R.input c) (room_in R c));
        too_long = λ c long. of c ∙ ap (outcome_of (R.nodes c) (R.entries c) (R.slots c)) (too_long (R.input c) (R.nodes c) (R.entries c) (R.slots c) (R.nesting c) long);
        more_room =
            λ c c' same larger other.
            let e' : R.ends c' ≡ read_of (R.input c) (R.nodes c') (R.entries c') (R.slots c') (R.nesting c') =
            exactly c' ∙ ap (λ s. read_of s (R.nodes c') (R.entries c') (R.slots c') (R.nesting c')) same in
            subst (Widened (R.nodes c) (R.entries c) (R.slots c) (R.nodes c') (R.entries c') (R.slots c') (R.ends c)) (sym e')
            (subst (λ o. Widened (R.nodes c) (R.entries c) (R.slots c) (R.nodes c') (R.entries c') (R.slots c') o (read_of (R.input c) (R.nodes c') (R.entries c') (R.slots c') (R.nesting c'))) (sym (exactly c))
            (more_room_same_stores (R.input c) (R.nodes c) (R.entries c) (R.slots c) (R.nesting c) (R.nodes c') (R.entries c') (R.slots c') (R.nesting c') larger (λ n p e. other n p (at c ∙ ap answered e))));
        more_bytes =
            λ c c' t longer small en ee es eg whole.
            exactly c'
            ∙ ((λ i. read_of (longer i) (en i) (ee i) (es i) (eg i))
            ∙ (appended_same_outcome (R.input c) t (R.nodes c) (R.entries c) (R.slots c) (R.nesting c) (rw longer at small) (λ n p e. whole n p (at c ∙ ap answered e))
            ∙ sym (exactly c)));
      }

pub demand_3 : Demand3 deserialize_value × Demand3 sill_read
demand_3 = (demanded deserialize_value deserialize_exactly, demanded sill_read sill_read_exactly)

-- The other way: a reader that meets demand 3 ends every call as the definition says, stores included.
pub exactly_so : (R : Reader) → Demand3 R → Exactly R
unfolding read_of
exactly_so R d c = go (ltb most_bytes (length (R.input c))) refl
  where
    as_read : EndsIn R c → length (R.input c) ≤ most_bytes
        → R.ends c ≡ outcome_of (R.nodes c) (R.entries c) (R.slots c) (reading (R.input c) (R.nodes c) (R.entries c) (R.slots c) (R.nesting c))
    as_read (fits f e) small =
        e ∙ ap (outcome_of (R.nodes c) (R.entries c) (R.slots c)) (sym (exact_where_it_fits (R.input c) (R.nodes c) (R.entries c) (R.slots c) (R.nesting c) small f))
    as_read (short not o e) small =
        e ∙ ap (outcome_of (R.nodes c) (R.entries c) (R.slots c)) (sym (first_over-refuses (R.input c) (R.nodes c) (R.entries c) (R.slots c) (R.nesting c) small o))

    go : (b : Bool) → ltb most_bytes (length (R.input c)) ≡ b
        → R.ends c ≡ outcome_of (R.nodes c) (R.entries c) (R.slots c) (reading (R.input c) (R.nodes c) (R.entries c) (R.slots c) (R.nesting c))
    go true q =
        let long = ltb-true most_bytes (length (R.input c)) q in
        d.too_long c long ∙ ap (outcome_of (R.nodes c) (R.entries c) (R.slots c)) (sym (too_long (R.input c) (R.nodes c) (R.entries c) (R.slots c) (R.nesting c) long))
    go false q =
        let small = ltb-false most_bytes (length (R.input c)) q in
        as_read (d.exact_or_first c small) small
