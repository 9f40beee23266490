-- The two ways of the round trip, of whole answers: a value that fits once sharing is written out is written as its bytes, and these read
-- as that value; read and written once more they are the same bytes. From theorems A, B and C.
-- Assumes that the input is bytes.
use mathlib.Core.Path.{◌≡◌, refl, sym, ap, subst, ◌∙◌}
use Prim.Native.Nat.{ℕ, ◌≤◌, ◌<◌, min, max}
use native.Mathlib.Omega.{arith}
use mathlib.Core.Option.{some}
use mathlib.Core.List.{List, [], ◌++◌, append-nil}
use lib.ListN.{length}
use borrow.Author.Tests.{le-ltb}
use Rattle.refusals.specs.Numbers.{no_room}
use Rattle.refusals.specs.Limits.{most_bytes, most_nesting}
use Rattle.grammar.specs.Reading.{gives, stops}
use Rattle.grammar.specs.State.{State, node_capacity, entry_capacity}
use Rattle.grammar.specs.Record.{Tables}
use Rattle.grammar.proofs.Tests.{same_some}
use Rattle.grammar.specs.Answer.{reading, Counts, counts_of, read_of}
use Rattle.grammar.specs.Input.{Bytes}
use Rattle.grammar.proofs.ReadBack.{tables_read}
use Rattle.writing.specs.Steps.{writing}
use Rattle.writing.specs.Answer.{most_output, written}
use Rattle.meaning.specs.Value.{Value}
use Rattle.meaning.specs.Canonical.{canonical}
use Rattle.meaning.specs.Extent.{depth_of, nodes_of, entries_of, counts_for}
use Rattle.meaning.specs.Order.{InOrder}
use Rattle.meaning.specs.Proper.{Below, Proper}
use Rattle.meaning.specs.Meaning.{value_of, tables_after}
use Rattle.meaning.specs.Written.{written_as}
use Rattle.meaning.proofs.Means.{Means}
use Rattle.meaning.proofs.Emits.{InTables, emits_into, emits_over}
use Rattle.meaning.proofs.Octets.{octets, below-append, below_at}
use Rattle.meaning.proofs.Stores.{in_tables}
use Rattle.meaning.proofs.TheoremA.{root-means, answer-gives}
use Rattle.meaning.proofs.TheoremB.{read_back}
use Rattle.meaning.proofs.TheoremC.{emits_written}
use Rattle.meaning.proofs.NameOrder.{in_order_same}
use Rattle.meaning.proofs.Unique.{means-value, by_tables}

-- Theorem C, of the whole answer: exactly what is written of the value where it fits, and the refusal of room where it does not.
module _ (t : Tables) (n : ℕ) (v : Value) (small : length t.input ≤ most_bytes) (m : Means (InTables t) n v) (p : Proper v) (nesting : ℕ) (depth : depth_of v ≤ min nesting most_nesting) where
  pub written_as_lem : (room : ℕ) → length (written_as v) ≤ min room most_output → written t n nesting room ≡ gives (written_as v)
  unfolding written
  written_as_lem room h =
      rw (le-ltb most_bytes (length t.input) small)
      (emits_into (min room most_output) [] (written_as v) (writing (min nesting most_nesting) t n) (emits_written t v n (min nesting most_nesting) m p depth) (omega arith))

  pub written_over : (room : ℕ) → min room most_output < length (written_as v) → written t n nesting room ≡ stops no_room (min room most_output)
  unfolding written
  written_over room h =
      rw (le-ltb most_bytes (length t.input) small)
      (emits_over (min room most_output) [] (written_as v) (writing (min nesting most_nesting) t n) (emits_written t v n (min nesting most_nesting) m p depth) (omega arith) (omega arith))

  -- in name order, that is the canonical bytes
  pub written_is : InOrder v → (room : ℕ) → length (canonical v) ≤ min room most_output → written t n nesting room ≡ gives (canonical v)
  written_is o room h =
      let e = in_order_same v p o in
      written_as_lem room (subst (λ z. length z ≤ min room most_output) (sym e) h) ∙ ap gives e

-- Theorem B, of the whole answer: the value's bytes, with anything after them.
counts_are : (a b c d a' b' c' d' : ℕ) → a ≡ a' → b ≡ b' → c ≡ c' → d ≡ d'
    → ◌≡◌ {A = Counts} (record { consumed = a; nodes = b; entries = c; slots = d }) (record { consumed = a'; nodes = b'; entries = c'; slots = d' })
counts_are a b c d a' b' c' d' p q r s = rw (p, q, r, s) refl

pub bytes_of : (v : Value) (rest : List ℕ) → Proper v → Below 256 rest → Bytes (canonical v ++ rest)
bytes_of v rest p h = below_at (canonical v ++ rest) (below-append (canonical v) rest (octets v p) h)

after-tables : (s : List ℕ) (nodes entries slots nesting : ℕ) (r : ℕ × State) → reading s nodes entries slots nesting ≡ gives r
    → tables_after s (read_of s nodes entries slots nesting) (counts_of r.1) ≡ tables_read s nodes entries r
unfolding read_of
after-tables s nodes entries slots nesting r e = rw e refl

-- so read, the root means the value whatever the allowance, once it is enough
module _ (v : Value) (nodes entries slots nesting : ℕ) (depth : depth_of v ≤ min nesting most_nesting) (nodes_fit : nodes_of v ≤ node_capacity nodes) (entries_fit : entries_of v ≤ entry_capacity entries) where
  pub reads_as : (rest : List ℕ) → Proper v → Below 256 rest → length (canonical v ++ rest) ≤ most_bytes
      → ((read_of (canonical v ++ rest) nodes entries slots nesting).answer ≡ gives (counts_for v))
      × ((a : ℕ) → depth_of v ≤ a → value_of a (tables_after (canonical v ++ rest) (read_of (canonical v ++ rest) nodes entries slots nesting) (counts_for v)) 0 ≡ some v)
  unfolding read_of
  reads_as rest p hr small =
      let s = canonical v ++ rest in
      let bytes = bytes_of v rest p hr in
      let l = read_back v rest p bytes small nodes entries slots nesting depth nodes_fit entries_fit in
      let r : ℕ × State = (0, l.state) in
      let c : counts_of l.state ≡ counts_for v = counts_are _ _ _ _ _ _ _ _ l.consumed l.nodes-used l.entries-used l.slots-used in
      let m = in_tables s bytes nodes entries slots nesting r l.answer v 0 l.means p in
      let T = tables_read s nodes entries r in
      let same : tables_after s (read_of s nodes entries slots nesting) (counts_for v) ≡ T =
      ap (tables_after s (read_of s nodes entries slots nesting)) (sym c) ∙ after-tables s nodes entries slots nesting r l.answer in
      (rw l.answer (ap gives c), λ a h. ap (λ x. value_of a x 0) same ∙ means-value (InTables T) (λ a n. value_of a T n) (by_tables T) v 0 a m h)

  pub reads_whole : Proper v → length (canonical v) ≤ most_bytes
      → ((read_of (canonical v) nodes entries slots nesting).answer ≡ gives (counts_for v))
      × ((a : ℕ) → depth_of v ≤ a → value_of a (tables_after (canonical v) (read_of (canonical v) nodes entries slots nesting) (counts_for v)) 0 ≡ some v)
  unfolding Below
  reads_whole p small =
      let e = append-nil (canonical v) in
      subst (λ s. ((read_of s nodes entries slots nesting).answer ≡ gives (counts_for v)) × ((a : ℕ) → depth_of v ≤ a → value_of a (tables_after s (read_of s nodes entries slots nesting) (counts_for v)) 0 ≡ some v)) e
      (reads_as [] p tt (subst (λ s. length s ≤ most_bytes) (sym e) small))

  -- Written bytes, read and written again, are the same bytes.
  pub written-again : Proper v → InOrder v → length (canonical v) ≤ most_bytes → (room : ℕ) → length (canonical v) ≤ min room most_output
      → written (tables_after (canonical v) (read_of (canonical v) nodes entries slots nesting) (counts_for v)) 0 nesting room ≡ gives (canonical v)
  written-again p o small room fits =
      let s = canonical v in
      let i = reads_whole p small in
      let bytes = below_at s (octets v p) in
      let a = answer-gives s nodes entries slots nesting (counts_for v) i.0 in
      let m = root-means s bytes nodes entries slots nesting a.read a.is in
      let top = max (depth_of v) (depth_of m.value) in
      let same : m.value ≡ v = same_some (sym (m.found top (omega arith)) ∙ ap (λ t. value_of top t 0) (sym a.tables) ∙ i.1 top (omega arith)) in
      ap (λ t. written t 0 nesting room) a.tables
      ∙ written_is (tables_read s nodes entries a.read) 0 v small (subst (Means (InTables (tables_read s nodes entries a.read)) 0) same m.means) p nesting depth o room fits
