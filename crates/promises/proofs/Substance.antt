-- What the demands shut out, over the demands themselves. A reader that meets demand 3 gives the definition's answer (Demand3 `exactly_so`), so
-- P1 and P4 of 01's sheets, and what the bytes of a value are read as (meaning's RoundTrip), are true of it. Assumes nothing.
use mathlib.Core.Path.{◌≡◌, refl, sym, ap, ◌∙◌}
use Prim.Native.Nat.{ℕ, zero, suc, max}
use native.Mathlib.Omega.{arith}
use mathlib.Core.Bool.{true}
use mathlib.Core.List.{List, []}
use lib.ListN.{length, length-replicate}
use denote.Ref.{Bor}
use denote.MutBor.{MutBor}
use Rattle.clearing.specs.Lent.{zeros}
use Rattle.grammar.specs.Input.{Bytes}
use Rattle.grammar.specs.Reading.{Answer, gives, stops}
use Rattle.grammar.specs.State.{State}
use Rattle.grammar.specs.Answer.{Counts, counts_of, reading, answered, read_of}
use Rattle.grammar.specs.Letters.{among}
use Rattle.grammar.proofs.Tests.{same_some}
use Rattle.grammar.proofs.Sheets.{p1, p4, sheets}
use Rattle.grammar.proofs.Substance.{same_counts_in_any-room}
use Rattle.meaning.specs.Value.{Value, nil, more, single, count_of}
use Rattle.meaning.specs.Canonical.{canonical}
use Rattle.meaning.specs.Extent.{depth_of, nodes_of, entries_of, counts_for}
use Rattle.meaning.specs.Proper.{singles, Proper}
use Rattle.meaning.specs.Meaning.{value_of, tables_after}
use Rattle.meaning.proofs.Octets.{octets, below_at}
use Rattle.meaning.proofs.TheoremA.{answer-gives}
use Rattle.meaning.proofs.RoundTrip.{reads_whole}
use Rattle.reader.specs.Delivered.{answer_of}
use Rattle.sillgarland.specs.Values.{read_struct}
use Rattle.promises.specs.Calls.{Reader, Writer, deserialize_value, sill_read}
use Rattle.promises.specs.Demand2.{ReadFits, Demand2, root_read}
use Rattle.promises.specs.Demand3.{Demand3}
use Rattle.promises.specs.Substance.{CallWith, Callable, RefusesAll, Constant, MadeUp, tuple, Invents, ReadsChildren, ShutOut}
use Rattle.agreement.proofs.Reader.{outcome_from}
use Rattle.refusals.proofs.Faults.{number_back}
use Rattle.promises.proofs.Numbers.{reading_in_table}
use Rattle.promises.proofs.Reading.{Exactly}
use Rattle.promises.proofs.Demand3.{exactly_so}

-- the answer of a call with twenty numbers in each store, as the sheets have it
called : (R : Reader) (exactly : Exactly R) (s : List ℕ) (c : CallWith R s 21 21 21 2000) → (R.ends c.call).answer ≡ (read_of s 21 21 21 2000).answer
called R exactly s c =
    ap (λ o. o.answer) (exactly c.call) ∙ (λ i. (read_of (c.input i) (c.nodes-lent i) (c.entries-lent i) (c.slots_lent i) (c.allowed i)).answer)

bytes_1 : Bytes p1
bytes_1 zero = omega arith
bytes_1 (suc i) = omega arith

bytes_4 : Bytes p4
bytes_4 zero = omega arith
bytes_4 (suc zero) = omega arith
bytes_4 (suc (suc zero)) = omega arith
bytes_4 (suc (suc (suc zero))) = omega arith
bytes_4 (suc (suc (suc (suc zero)))) = omega arith
bytes_4 (suc (suc (suc (suc (suc zero))))) = omega arith
bytes_4 (suc (suc (suc (suc (suc (suc zero)))))) = omega arith
bytes_4 (suc (suc (suc (suc (suc (suc (suc zero))))))) = omega arith
bytes_4 (suc (suc (suc (suc (suc (suc (suc (suc i)))))))) = omega arith

call_1 : (R : Reader) → Callable R → CallWith R p1 21 21 21 2000
call_1 R can = can p1 bytes_1 (omega arith) 21 21 21 2000 (omega arith) (omega arith) (omega arith) (omega arith)

call_4 : (R : Reader) → Callable R → CallWith R p4 21 21 21 2000
call_4 R can = can p4 bytes_4 (omega arith) 21 21 21 2000 (omega arith) (omega arith) (omega arith) (omega arith)

refusing_everything_is_out : (R : Reader) → Demand3 R → Callable R → RefusesAll R → ⊥
refusing_everything_is_out R d can refuses =
    let c = call_1 R can in
    let accepted = called R (exactly_so R d) p1 c ∙ ap (λ o. o.answer) sheets.0.0 in
    let refused = (refuses c.call).2 in
    let z : ◌≡◌ {A = ℕ} 0 1 = cc in
    omega arith

constant_answer_is_out : (R : Reader) → Demand3 R → Callable R → Constant R → ⊥
constant_answer_is_out R d can (always, constant) =
    let exactly = exactly_so R d in
    let c1 = call_1 R can in
    let c4 = call_4 R can in
    let one = sym (constant c1.call) ∙ called R exactly p1 c1 ∙ ap (λ o. o.answer) sheets.0.0 in
    let four = sym (constant c4.call) ∙ called R exactly p4 c4 ∙ ap (λ o. o.answer) sheets.3.0 in
    let z = ap consumed_of (sym one ∙ four) in
    omega arith
  where
    consumed_of : Answer Counts → ℕ
    consumed_of (gives c) = c.consumed
    consumed_of (stops n p) = 0

made_up_counts_are_out : (R : Reader) → Demand3 R → MadeUp R → ⊥
made_up_counts_are_out R d m =
    let exactly = exactly_so R d in
    let c = m.one in
    let c' = m.other in
    let e = sym (ap (λ o. o.answer) (exactly c)) ∙ m.counted in
    let e' = sym (ap (λ o. o.answer) (exactly c')) ∙ m.counted' in
    let f = ap (λ s. (read_of s (R.nodes c) (R.entries c) (R.slots c) (R.nesting c)).answer) (sym m.same) ∙ e in
    let a = answer-gives (R.input c') (R.nodes c) (R.entries c) (R.slots c) (R.nesting c) m.counts f in
    let b = answer-gives (R.input c') (R.nodes c') (R.entries c') (R.slots c') (R.nesting c') m.counts' e' in
    let same = same_counts_in_any-room (R.input c') (R.nodes c) (R.entries c) (R.slots c) (R.nesting c) (R.nodes c') (R.entries c') (R.slots c') (R.nesting c') a.read b.read a.is b.is in
    m.apart (a.counts ∙ ap (λ r. counts_of r.1) same ∙ sym b.counts)

-- What a value's bytes are read as, by both demands: demand 3 says which answer and stores, demand 2 what value these mean.
children_are_read : (R : Reader) (W : Writer) (d : Demand2 R W) → Demand3 R → ReadsChildren R W d
children_are_read R W d d3 v p c is f =
    let exactly = exactly_so R d3 in
    let i = reads_whole v (R.nodes c) (R.entries c) (R.slots c) (R.nesting c) f.nesting f.nodes f.entries p f.bytes in
    let ends = exactly c ∙ ap (λ s. read_of s (R.nodes c) (R.entries c) (R.slots c) (R.nesting c)) is in
    let e = ap (λ o. o.answer) ends ∙ i.0 in
    let r = root_read d c (counts_for v) e in
    let w = d.value r in
    let top = max (depth_of v) (depth_of w) in
    let mine = (d.read r).means top (omega arith) in
    let theirs = i.1 top (omega arith) in
    let tables : value_of top (tables_after (R.input c) (R.ends c) (counts_for v)) 0
    ≡ value_of top (tables_after (canonical v) (read_of (canonical v) (R.nodes c) (R.entries c) (R.slots c) (R.nesting c)) (counts_for v)) 0 =
    λ j. value_of top (tables_after (is j) (ends j) (counts_for v)) 0 in
    (counts_for v, e, same_some (sym mine ∙ tables ∙ theirs))

-- (True, None) and (True, True): the same first child
abbrev true-and : ℕ → Value
true-and letter = tuple (single 0x54) (more (single letter) nil)

true_proper : (letter : ℕ) → among letter singles ≡ true → Proper (true-and letter)
unfolding Proper count_of
true_proper letter h = (refl, omega arith, (refl, (h, tt)))

call_pair : (R : Reader) → Callable R → (letter : ℕ) → among letter singles ≡ true → CallWith R (canonical (true-and letter)) 21 21 21 2000
unfolding canonical count_of
call_pair R can letter h =
    can (canonical (true-and letter)) (below_at (canonical (true-and letter)) (octets (true-and letter) (true_proper letter h))) (omega arith) 21 21 21 2000
    (omega arith) (omega arith) (omega arith) (omega arith)

pair_fits : (R : Reader) (letter : ℕ) (c : CallWith R (canonical (true-and letter)) 21 21 21 2000) → ReadFits (true-and letter) R c.call
unfolding depth_of nodes_of entries_of canonical count_of
pair_fits R letter c =
    record { nesting = rw c.allowed (omega arith); bytes = omega arith; nodes = rw c.nodes-lent (omega arith); entries = rw c.entries-lent (omega arith) }

inventing_is_out : (R : Reader) (W : Writer) (d : Demand2 R W) → Demand3 R → Callable R → Invents R W d → ⊥
inventing_is_out R W d d3 can (rest, invents) =
    let n = call_pair R can 0x4E refl in
    let t = call_pair R can 0x54 refl in
    let a = children_are_read R W d d3 (true-and 0x4E) (true_proper 0x4E refl) n.call n.input (pair_fits R 0x4E n) in
    let b = children_are_read R W d d3 (true-and 0x54) (true_proper 0x54 refl) t.call t.input (pair_fits R 0x54 t) in
    let x = invents n.call a.0 a.1 (single 0x54) (single 0x4E) n.input in
    let y = invents t.call b.0 b.1 (single 0x54) (single 0x54) t.input in
    let e : true-and 0x4E ≡ true-and 0x54 = sym a.2 ∙ x ∙ sym y ∙ b.2 in
    let z : ◌≡◌ {A = ℕ} 0x4E 0x54 = cc in
    omega arith

pub shut_out : ShutOut
shut_out =
    record {
      refusing_everything = refusing_everything_is_out;
      constant_answer = constant_answer_is_out;
      made_up_counts = made_up_counts_are_out;
      children-read = children_are_read;
      inventing_the_rest = inventing_is_out;
    }

-- Both readers can be called: each contract is met by the definition's own answer.
abbrev lent_as : List ℕ → Bor (List ℕ)
lent_as xs = record { ref_ptr = (0, 0); now = xs }

abbrev lent_for_writing : List ℕ → MutBor (List ℕ)
lent_for_writing xs = record { ref_ptr = (0, 0); ghost_name = 0; now = xs }

pub deserialize_callable : Callable deserialize_value
unfolding read_of
deserialize_callable s bytes small nodes entries slots nesting ln le ls lg =
    let o = read_of s (length (zeros nodes)) (length (zeros entries)) (length (zeros slots)) nesting in
    record {
      call =
          record {
            κs = ([], ([], ([], ([], tt))));
            args = (lent_as s, (lent_for_writing (zeros nodes), (lent_for_writing (zeros entries), (lent_for_writing (zeros slots), (nesting, tt)))));
            meant = tt;
            result = outcome_from o.answer;
            last = (tt, (o.nodes, (o.entries, (o.slots, (tt, tt)))));
            meets = record { answer = told (reading s (length (zeros nodes)) (length (zeros entries)) (length (zeros slots)) nesting) refl; nodes = refl; entries = refl; slots = refl };
          };
      input = refl;
      nodes-lent = length-replicate nodes 0;
      entries-lent = length-replicate entries 0;
      slots_lent = length-replicate slots 0;
      allowed = refl;
    }
  where
    told : (a : Answer (ℕ × State)) → reading s (length (zeros nodes)) (length (zeros entries)) (length (zeros slots)) nesting ≡ a
        → answer_of (outcome_from (answered a)) ≡ answered a
    told (gives r) e = refl
    told (stops number place) e =
        let t = reading_in_table s (length (zeros nodes)) (length (zeros entries)) (length (zeros slots)) nesting number place e in
        ap (λ n. stops n place) (number_back number t.0 t.1)

pub sill_read_callable : Callable sill_read
sill_read_callable s bytes small nodes entries slots nesting ln le ls lg =
    let o = read_of s (length (zeros nodes)) (length (zeros entries)) (length (zeros slots)) nesting in
    record {
      call =
          record {
            κs = ([], ([], ([], ([], tt))));
            args = (lent_as s, (lent_for_writing (zeros nodes), (lent_for_writing (zeros entries), (lent_for_writing (zeros slots), (nesting, tt)))));
            meant = tt;
            result = read_struct o.answer;
            last = (tt, (o.nodes, (o.entries, (o.slots, (tt, tt)))));
            meets = record { numbers = refl; holds-nodes = refl; holds-entries = refl; holds-slots = refl };
          };
      input = refl;
      nodes-lent = length-replicate nodes 0;
      entries-lent = length-replicate entries 0;
      slots_lent = length-replicate slots 0;
      allowed = refl;
    }
