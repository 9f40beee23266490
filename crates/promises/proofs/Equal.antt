-- Equal means equal: what is accepted is written as the bytes of the value, and in name order these are of one value. From meaning's
-- `accepted_as` and `canonical_injective`. Assumes nothing but bytes for input.
use mathlib.Core.Path.{◌≡◌, refl, sym, ap, subst, ◌∙◌}
use mathlib.Core.List.{List}
use Prim.Native.Nat.{ℕ, ◌-◌}
use native.Mathlib.Omega.{arith}
use lib.ListN.{length}
use lib.Seq.{take-append_seam}
use Rattle.clearing.specs.Lent.{zeros, padded}
use Rattle.grammar.specs.Input.{Bytes}
use Rattle.grammar.specs.Reading.{Answer, gives, stops}
use Rattle.writing.specs.Answer.{written, output_held}
use Rattle.meaning.specs.Value.{Value}
use Rattle.meaning.specs.Meaning.{tables_after}
use Rattle.meaning.specs.Written.{written_as}
use Rattle.meaning.proofs.Means.{Means}
use Rattle.meaning.proofs.Emits.{InTables}
use Rattle.meaning.proofs.NameOrder.{in_order_same}
use Rattle.meaning.proofs.Accepted.{accepted_as}
use Rattle.meaning.proofs.Injective.{canonical_injective}
use Rattle.promises.specs.Calls.{Reader, Writer, on_bytes, deserialize_value, sill_read, serialize_value, sill_write}
use Rattle.promises.specs.Demand2.{NodeRead}
use Rattle.promises.specs.Equal.{counted_bytes, bytes_of, WrittenNode, Equal}
use Rattle.writer.specs.Entry.{length_in}
use Rattle.promises.proofs.Reading.{Exactly, Exact, written_by, deserialize_exactly, sill_read_exactly, serialize_exact, sill_write-exact}
use Rattle.promises.proofs.Demand2.{is, meant, read_as}

-- an accepted call's bytes are those that the definition gives
counted : (room : ℕ) (a : Answer (List ℕ)) (count : ℕ) → length_in a ≡ gives count → (bs : List ℕ) × (a ≡ gives bs) × (counted_bytes (length_in a) (output_held room a) ≡ bs)
unfolding padded
counted room (gives bs) count e = (bs, refl, take-append_seam bs (zeros (room - length bs)))
counted room (stops number place) count e = let z : ◌≡◌ {A = ℕ} 0 1 = cc in absurd (omega arith)

module _ (R : Reader) (of_bytes : (c : R.Calls) → Bytes (R.input c)) (exactly : Exactly R) (W : Writer) (exact : (w : W.Calls) → Exact W w) where
  abbrev value_in : NodeRead R → Value
  value_in r = (meant R of_bytes exactly r).value

  -- the stores that the call left mean the value
  means-after : (r : NodeRead R) → Means (InTables (tables_after (R.input r.call) (R.ends r.call) r.counts)) r.node (value_in r)
  means-after r =
      subst (λ t. Means (InTables t) r.node (value_in r))
      (sym (ap (λ o. tables_after (R.input r.call) o r.counts) (exactly r.call) ∙ (is R of_bytes exactly r).tables)) (meant R of_bytes exactly r).means

  bytes_are : (r : NodeRead R) (w : W.Calls) → WrittenNode R W r w → bytes_of W w ≡ written_as (value_in r)
  bytes_are r w k =
      let x = counted (W.room w) (written_by W w) k.count (sym (exact w).answer ∙ k.accepted) in
      let t = tables_after (R.input r.call) (R.ends r.call) r.counts in
      let e : written t r.node (W.nesting w) (W.room w) ≡ gives x.0 = (λ i. written (sym k.hands.tables i) (sym k.hands.node i) (W.nesting w) (W.room w)) ∙ x.1 in
      (λ i. counted_bytes ((exact w).answer i) ((exact w).output i))
      ∙ x.2 ∙ accepted_as t r.node (value_in r) (means-after r) (meant R of_bytes exactly r).proper (W.nesting w) (W.room w) x.0 e

  equal : Equal R W
  equal =
      record {
        value = value_in;
        read = read_as R of_bytes exactly;
        same_bytes = λ r r' w w' k k' e. bytes_are r w k ∙ ap written_as e ∙ sym (bytes_are r' w' k');
        same_value =
            λ r r' w w' k k' o o' e.
            let p = (meant R of_bytes exactly r).proper in
            let p' = (meant R of_bytes exactly r').proper in
            canonical_injective (value_in r) (value_in r') p p'
            (sym (bytes_are r w k ∙ in_order_same (value_in r) p o) ∙ e ∙ bytes_are r' w' k' ∙ in_order_same (value_in r') p' o');
      }

-- of the functions that are carried, and of the exports
pub equal_means_equal : Equal (on_bytes deserialize_value) serialize_value × Equal (on_bytes sill_read) sill_write
equal_means_equal = (
  equal (on_bytes deserialize_value) (λ c. c.bytes) (λ c. deserialize_exactly c.call) serialize_value serialize_exact,
  equal (on_bytes sill_read) (λ c. c.bytes) (λ c. sill_read_exactly c.call) sill_write sill_write-exact,
)
