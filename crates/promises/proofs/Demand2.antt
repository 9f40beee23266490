-- DEMAND 2: what either reader reads means a value at every node, either writer writes it back as its canonical bytes, and these read as the
-- same value. From meaning's theorem A (every node), AnyStores (its writing) and RoundTrip (its reading). Assumes nothing but bytes for input.
use mathlib.Core.Path.{◌≡◌, sym, ap, subst, ◌∙◌}
use Prim.Native.Nat.{◌≤◌, ◌<◌, ◌-◌, min}
use native.Mathlib.Omega.{arith}
use lib.ListN.{length, take}
use lib.Seq.{take-append_seam}
use Rattle.refusals.specs.Limits.{most_bytes, most_nesting}
use Rattle.clearing.specs.Lent.{zeros, padded}
use Rattle.grammar.specs.Input.{Bytes}
use Rattle.grammar.specs.Reading.{gives}
use Rattle.grammar.specs.Answer.{Counts, read_of}
use Rattle.writing.specs.Answer.{written, output_held}
use Rattle.meaning.specs.Value.{Value}
use Rattle.meaning.specs.Canonical.{canonical}
use Rattle.meaning.specs.Extent.{counts_for}
use Rattle.meaning.specs.Order.{InOrder}
use Rattle.meaning.specs.Meaning.{value_of, tables_after}
use Rattle.grammar.proofs.Contents.{gives-within}
use Rattle.grammar.proofs.ReadBack.{accepted}
use Rattle.meaning.proofs.TheoremA.{Meant, every_node-means, Answered, answer-gives}
use Rattle.meaning.proofs.AnyStores.{found_in-order_is_written}
use Rattle.meaning.proofs.RoundTrip.{reads_whole}
use Rattle.promises.specs.Calls.{Reader, Writer, on_bytes, deserialize_value, sill_read, serialize_value, sill_write}
use Rattle.promises.specs.Demand2.{ReadAs, NodeRead, Hands, WriteFits, ReadFits, WrittenBack, Demand2}
use Rattle.writer.specs.Entry.{length_in}
use Rattle.promises.proofs.Reading.{Exactly, Exact, written_by, deserialize_exactly, sill_read_exactly, serialize_exact, sill_write-exact}

module _ (R : Reader) (of_bytes : (c : R.Calls) → Bytes (R.input c)) (exactly : Exactly R) where
  answered : (c : R.Calls) (counts : Counts) → (R.ends c).answer ≡ gives counts → Answered (R.input c) (R.nodes c) (R.entries c) (R.slots c) (R.nesting c) counts
  answered c counts e = answer-gives (R.input c) (R.nodes c) (R.entries c) (R.slots c) (R.nesting c) counts (sym (ap (λ o. o.answer) (exactly c)) ∙ e)

  module _ (r : NodeRead R) where
    abbrev c : R.Calls
    c = r.call

    pub is : Answered (R.input c) (R.nodes c) (R.entries c) (R.slots c) (R.nesting c) r.counts
    is = answered c r.counts r.accepted

    -- what is accepted is at most 16 MiB
    pub small : length (R.input c) ≤ most_bytes
    small = (gives-within (R.input c) (R.nodes c) (R.entries c) (R.slots c) (R.nesting c) is.read is.is).0

    pub meant : Meant (R.input c) (R.nodes c) (R.entries c) is.read r.node
    meant =
        every_node-means (R.input c) (of_bytes c) (R.nodes c) (R.entries c) (R.slots c) (R.nesting c) is.read is.is r.node
        (subst (λ k. r.node < k.nodes) is.counts r.used)

    pub read_as : ReadAs R c r.counts r.node meant.value
    read_as =
        record {
          accepts = r.accepted;
          means =
              λ a l.
              ap (λ o. value_of a (tables_after (R.input c) o r.counts) r.node) (exactly c) ∙ (ap (λ t. value_of a t r.node) is.tables ∙ meant.found a l);
        }

    module _ (W : Writer) (exact : (w : W.Calls) → Exact W w) (w : W.Calls) (h : Hands R r W w) (o : InOrder meant.value) (f : WriteFits meant.value W w) where
      abbrev v : Value
      v = meant.value

      pub written_back : WrittenBack v W w
      written_back =
          let t = tables_after (R.input c) (R.ends c) r.counts in
          let e : written_by W w ≡ gives (canonical v) =
          (λ i. written (h.tables i) (h.node i) (W.nesting w) (W.room w))
          ∙ found_in-order_is_written t (of_bytes c) small r.node (W.nesting w) (W.room w) v (read_as.means (min (W.nesting w) most_nesting) f.nesting) o f.bytes in
          record { answer = (exact w).answer ∙ ap length_in e; output = (exact w).output ∙ ap (output_held (W.room w)) e }

      read_again : (c' : R.Calls) → R.input c' ≡ take (length (canonical v)) (W.output w) → ReadFits v R c' → ReadAs R c' (counts_for v) 0 v
      unfolding padded
      read_again c' same g =
          let s : R.input c' ≡ canonical v =
          same ∙ (ap (take (length (canonical v))) written_back.output ∙ take-append_seam (canonical v) (zeros (W.room w - length (canonical v)))) in
          let i = reads_whole v (R.nodes c') (R.entries c') (R.slots c') (R.nesting c') g.nesting g.nodes g.entries meant.proper g.bytes in
          let ends = exactly c' ∙ ap (λ x. read_of x (R.nodes c') (R.entries c') (R.slots c') (R.nesting c')) s in
          record { accepts = ap (λ x. x.answer) ends ∙ i.0; means = λ a l. (λ j. value_of a (tables_after (s j) (ends j) (counts_for v)) 0) ∙ i.1 a l }

  root-used : (c : R.Calls) (counts : Counts) → (R.ends c).answer ≡ gives counts → 0 < counts.nodes
  root-used c counts e =
      let a = answered c counts e in
      let k = (accepted (R.input c) (of_bytes c) (R.nodes c) (R.entries c) (R.slots c) (R.nesting c) a.read a.is).root in
      omega (arith, ap (λ x. x.nodes) a.counts, k)

  demanded : (W : Writer) → ((w : W.Calls) → Exact W w) → Demand2 R W
  demanded W exact =
      record {
        value = λ r. (meant r).value;
        read = read_as;
        back = λ r. written_back r W exact;
        again = λ r. read_again r W exact;
        root = root-used;
      }

-- of the functions that are carried, and of the exports
pub demand_2 : Demand2 (on_bytes deserialize_value) serialize_value × Demand2 (on_bytes sill_read) sill_write
demand_2 = (
  demanded (on_bytes deserialize_value) (λ c. c.bytes) (λ c. deserialize_exactly c.call) serialize_value serialize_exact,
  demanded (on_bytes sill_read) (λ c. c.bytes) (λ c. sill_read_exactly c.call) sill_write sill_write-exact,
)
