-- The calls of both readers end as the definition says, and the calls of both writers: their contracts, in the words of the definitions. That
-- a struct's numbers say which answer it is rests on Numbers: no refusal has number 0. Assumes nothing.
use mathlib.Core.Path.{◌≡◌, refl, ap, ◌∙◌}
use Prim.Native.Nat.{ℕ}
use native.Mathlib.Omega.{arith}
use mathlib.Core.List.{List}
use lib.ListN.{length}
use borrow.Author.Tests.{ne_eqb}
use Rattle.refusals.specs.Numbers.{accepted}
use Rattle.grammar.specs.Reading.{Answer, gives, stops}
use Rattle.grammar.specs.State.{State}
use Rattle.grammar.specs.Answer.{Counts, answered, reading, read_of}
use Rattle.writing.specs.Answer.{written, output_held}
use Rattle.writer.specs.Entry.{length_in}
use Rattle.sillgarland.specs.Values.{read_struct, wrote_struct}
use Rattle.promises.specs.Calls.{Reader, Writer, deserialize_value, sill_read, answer_in, serialize_value, sill_write, wrote_in}
use Rattle.promises.proofs.Numbers.{Tabled, reading_in_table, written_in_table}

-- A reader whose every call ends as the definition says, and a writer so.
abbrev pub Exactly : Reader → Type 0
Exactly R = (c : R.Calls) → R.ends c ≡ read_of (R.input c) (R.nodes c) (R.entries c) (R.slots c) (R.nesting c)

abbrev pub written_by : (W : Writer) → W.Calls → Answer (List ℕ)
written_by W w = written (W.tables w) (W.root w) (W.nesting w) (W.room w)

pub record Exact (W : Writer) (w : W.Calls) : Type 0 where
  pub answer : W.answer w ≡ length_in (written_by W w)
  pub output : W.output w ≡ output_held (W.room w) (written_by W w)

-- `deserialize_value` and `serialize_value`
pub deserialize_exactly : Exactly deserialize_value
deserialize_exactly c =
    let m = c.meets in
    λ i. record { answer = m.answer i; nodes = m.nodes i; entries = m.entries i; slots = m.slots i }

pub serialize_exact : (w : serialize_value.Calls) → Exact serialize_value w
serialize_exact w = record { answer = w.meets.answers; output = w.meets.holds }

-- The structs.
answered_in_table : (s : List ℕ) (nodes entries slots nesting : ℕ) → Tabled (read_of s nodes entries slots nesting).answer
unfolding read_of
answered_in_table s nodes entries slots nesting = go (reading s nodes entries slots nesting) refl
  where
    go : (a : Answer (ℕ × State)) → reading s nodes entries slots nesting ≡ a → Tabled (answered a)
    go (gives r) e = tt
    go (stops n p) e = reading_in_table s nodes entries slots nesting n p e

read_back : (a : Answer Counts) → Tabled a → answer_in (read_struct a) ≡ a
read_back (gives counts) h = refl
read_back (stops number place) h = rw (ne_eqb number accepted (λ e. omega (arith, e, h.0))) refl

pub sill_read_exactly : Exactly sill_read
sill_read_exactly c =
    let m = c.meets in
    let e = ap answer_in m.numbers ∙ read_back _ (answered_in_table (sill_read.input c) (sill_read.nodes c) (sill_read.entries c) (sill_read.slots c) (sill_read.nesting c)) in
    λ i. record { answer = e i; nodes = m.holds-nodes i; entries = m.holds-entries i; slots = m.holds-slots i }

wrote_in_lem : (a : Answer (List ℕ)) → Tabled a → wrote_in (wrote_struct (length_in a)) ≡ length_in a
wrote_in_lem (gives bytes) h = refl
wrote_in_lem (stops number place) h = rw (ne_eqb number accepted (λ e. omega (arith, e, h.0))) refl

pub sill_write-exact : (w : sill_write.Calls) → Exact sill_write w
sill_write-exact w =
    record {
      answer = ap wrote_in w.meets.numbers ∙ wrote_in_lem (written_by sill_write w) (written_in_table (sill_write.tables w) (sill_write.root w) (sill_write.nesting w) (sill_write.room w));
      output = w.meets.holds;
    }
