-- 02, K7: the theorem of the request, for every accepted input, every room that accepts it and every node that its reading left. Assumes that
-- the input is bytes.
use mathlib.Core.Path.{◌≡◌, refl, sym, ap, subst, ◌∙◌}
use Prim.Native.Nat.{ℕ, ◌+◌, ◌-◌, ◌≤◌, ◌<◌}
use native.Mathlib.Omega.{arith}
use mathlib.Core.Bool.{true}
use mathlib.Core.List.{List}
use lib.ListN.{length, get_or}
use borrow.Author.Tests.{le-ltb}
use Rattle.refusals.specs.Limits.{most_bytes}
use Rattle.grammar.specs.Input.{Bytes}
use Rattle.grammar.specs.Reading.{gives}
use Rattle.grammar.specs.Room.{Rooms, run, plainly}
use Rattle.grammar.specs.State.{State, start}
use Rattle.grammar.specs.Answer.{plain, rooms_of, reading, Counts, counts_of, read_of}
use Rattle.grammar.specs.Record.{Tables, node_of}
use Rattle.nodespan.specs.Span.{span_of}
use Rattle.grammar.proofs.Following.{follows_gives}
use Rattle.grammar.proofs.Contents.{gives-within}
use Rattle.grammar.proofs.Bounded.{none_claimed}
use Rattle.grammar.proofs.ReadBack.{tables_read, node_held, entry_held, all_nodes, all_entries, linked-read, read-is_sound}
use Rattle.meaning.specs.Value.{Value}
use Rattle.meaning.specs.Proper.{Proper}
use Rattle.meaning.specs.Meaning.{value_of}
use Rattle.meaning.proofs.Means.{Means}
use Rattle.meaning.proofs.Standing.{InState}
use Rattle.meaning.proofs.Goes.{Anywhere}
use Rattle.meaning.proofs.Emits.{InTables}
use Rattle.meaning.proofs.Sense.{Sense}
use Rattle.meaning.proofs.Kept.{Always}
use Rattle.meaning.proofs.Sensible.{Told, value_tells}
use Rattle.meaning.proofs.Stores.{in_tables}
use Rattle.meaning.proofs.TheoremA.{answer-gives}
use Rattle.meaning.proofs.TheoremB.{at_start}
use Rattle.meaning.proofs.Unique.{means-value, by_tables}
use Rattle.shifts.specs.Lower.{alone_of}
use Rattle.shifts.proofs.Lowered.{low-bytes}
use Rattle.shifts.proofs.Span.{shift_of}
use Rattle.alone.specs.Question.{end_of, names_own}
use Rattle.alone.specs.Alone.{span_alone, ReadsAs, Alone}
use Rattle.alone.specs.Promised.{Spanned, Promised}
use Rattle.alone.proofs.Made.{Inside}
use Rattle.alone.proofs.Runs.{same_gives, run-plainly}
use Rattle.alone.proofs.Spans.{SpanRead, node-alone, bit-long, bit-small}
use Rattle.alone.proofs.Lone.{same_value}
use Rattle.alone.proofs.Nested.{own, own_made, starts, ends, some_bytes, inside-from, inside-to, starts-inside, ends-inside, slots_before_start}
use Rattle.alone.proofs.Asked.{Held, input_held, named_own}
use Rattle.alone.proofs.Told.{span-told, header-letter}

-- the stores that it left
stores_held : (s : List ℕ) → Bytes s → (nodes entries slots nesting : ℕ) (r : ℕ × State) → reading s nodes entries slots nesting ≡ gives r → Held s r.1 (tables_read s nodes entries r)
stores_held s bytes nodes entries slots nesting r e =
    record {
      input = refl;
      many = omega (arith, all_nodes s bytes nodes entries slots nesting r e);
      node = node_held s bytes nodes entries slots nesting r e;
      linked =
          linked-read (tables_read s nodes entries r) r.1.entries (entry_held s bytes nodes entries slots nesting r e) (all_entries s bytes nodes entries slots nesting r e);
      entries = all_entries s bytes nodes entries slots nesting r e;
    }

-- What a node of the plain reading means, it means in the stores of any reading that is accepted.
reads_as : (s : List ℕ) → Bytes s → (r : ℕ × State) → plainly (plain s) ≡ gives r → (n : ℕ) (w : Value) → Means (InState s r.1) n w → Proper w → ReadsAs s n w
reads_as s bytes r read n w m p nodes entries slots nesting c e allowance l =
    let a = answer-gives s nodes entries slots nesting c e in
    let q = a.read in
    let z : r ≡ q = same_gives r q (sym read ∙ run-plainly (rooms_of nodes entries slots nesting) (plain s) q (gives-within s nodes entries slots nesting q a.is).1) in
    let t = tables_read s nodes entries q in
    let k = in_tables s bytes nodes entries slots nesting q a.is w n (subst (λ x. Means (InState s x.1) n w) z m) p in
    ap (λ t. value_of allowance t n) a.tables ∙ means-value (InTables t) (λ a n. value_of a t n) (by_tables t) w n allowance k l

-- The root of an accepted input means a value.
root_sense : (s : List ℕ) → length s ≤ most_bytes → Bytes s → (r : ℕ × State) → plainly (plain s) ≡ gives r → Sense (InState s r.1) r.0
unfolding plain
root_sense s small bytes r read =
    (follows_gives Always Anywhere (Told s small bytes start) none_claimed (plain s) r
    (value_tells s small bytes (length s) 0 none_claimed start (at_start s) (λ k n q. absurd (omega (arith, q)))) read).holds.sense

-- In room enough an input of 16 MiB at most is answered.
answered_in : (s : List ℕ) → length s ≤ most_bytes → (nodes entries slots nesting : ℕ) (r : ℕ × State) → run (rooms_of nodes entries slots nesting) (plain s) ≡ gives r
    → (read_of s nodes entries slots nesting).answer ≡ gives (counts_of r.1)
unfolding read_of reading
answered_in s small nodes entries slots nesting r e = rw (le-ltb most_bytes (length s) small, e) refl

module _ (s : List ℕ) (R : Rooms) (small : length s ≤ most_bytes) (bytes : Bytes s) (v : ℕ) (fin : State) (read : run R (plain s) ≡ gives (v, fin)) (n : ℕ) (used : n < length fin.nodes) where
  abbrev mine : Inside s R start n fin
  mine = own s R small bytes v fin read n used

  abbrev u : List ℕ
  u = alone_of s (length mine.st.slots) mine.st.at mine.end.at fin.met

  alone_is : span_alone s fin n ≡ u
  unfolding span_alone
  alone_is = rw (slots_before_start s R small bytes v fin read n used, starts s R small bytes v fin read n used, ends s R small bytes v fin read n used) refl

  within : mine.end.at ≤ length s
  within = (own_made s R small bytes v fin read n used).valued.holds.within

  abbrev Cut : Type 0
  Cut = SpanRead s R (length mine.st.slots) mine.st.at mine.end.at n (length mine.end.nodes) (shift_of mine.depth mine.st) fin

  -- where the answer is yes
  cut : (t : Tables) → Held s fin t → names_own s fin n ≡ true → Cut
  cut t held asked = node-alone s R small bytes v fin read n used (λ r m l h. (named_own s R small bytes v fin read t held n used asked r m l h).0)

  cut_gave : (a : Cut) → run R (plain (span_alone s fin n)) ≡ gives (0, a.state)
  cut_gave a = ap (λ z. run R (plain z)) alone_is ∙ a.gave

  module _ (a : Cut) where
    long : length u ≡ mine.end.at - mine.st.at
    long = bit-long s R small bytes v fin read n _ _ _ _ _ a refl within

    u_small : length u ≤ most_bytes
    u_small = bit-small s R small bytes v fin read n _ _ _ _ _ a refl within

    u_bytes : Bytes u
    u_bytes = low-bytes s bytes (length mine.st.slots) mine.st.at mine.end.at fin.met

    u_gave : plainly (plain u) ≡ gives (0, a.state)
    u_gave = run-plainly R (plain u) (0, a.state) a.gave

    sense : Sense (InState u a.state) 0
    sense = root_sense u u_small u_bytes (0, a.state) u_gave

    small-alone : length (span_alone s fin n) ≤ most_bytes
    small-alone = omega (arith, u_small, ap length alone_is)

    span_alone_lem : ((nodes entries slots nesting : ℕ) (c : Counts) → (read_of s nodes entries slots nesting).answer ≡ gives c
        → (read_of (span_alone s fin n) nodes entries slots nesting).answer ≡ gives (counts_of a.state)) → Alone s fin n
    span_alone_lem rooms =
        record {
          left = a.state;
          accepts = ap (λ z. plainly (plain z)) alone_is ∙ u_gave;
          in_room_lem = rooms;
          consumed = omega (arith, a.consumed, long, ap length alone_is);
          length_is = omega (arith, long, ap length alone_is, some_bytes s R small bytes v fin read n used, starts s R small bytes v fin read n used, ends s R small bytes v fin read n used);
          behind = shift_of mine.depth mine.st;
          places = sym (starts s R small bytes v fin read n used);
          before = mine.first;
          nodes = a.part.nodes;
          entries = a.part.entries;
          slots = λ i l. ap (λ b. get_or fin.slots (b + i) 0) (slots_before_start s R small bytes v fin read n used) ∙ a.part.slots i l;
          inside = λ i l.
              record {
                from = starts-inside s R small bytes v fin read n used (n + i) (omega arith) (omega (arith, a.made));
                to = ends-inside s R small bytes v fin read n used (n + i) (omega arith) (omega (arith, a.made));
              };
          no_other = λ m l h.
              (inside-from s R small bytes v fin read n used m l h.from, omega (arith, a.made, inside-to s R small bytes v fin read n used m l h.to));
          value = sense.value;
          whole =
              reads_as s bytes (v, fin) (run-plainly R (plain s) (v, fin) read) n sense.value
              (same_value s R small bytes v fin read n _ _ _ _ _ a refl mine.first within sense.value sense.means) sense.proper;
          alone = subst (λ z. ReadsAs z 0 sense.value) (sym alone_is) (reads_as u u_bytes (0, a.state) u_gave 0 sense.value sense.means sense.proper);
        }

-- On yes: the span alone, in whatever room the whole was read.
module _ (s : List ℕ) (bytes : Bytes s) (R : Rooms) (small : length s ≤ most_bytes) (r : ℕ × State) (read : run R (plain s) ≡ gives r) (n : ℕ) (used : n < length r.1.nodes)
    (t : Tables) (held : Held s r.1 t) (asked : names_own s r.1 n ≡ true) where
  abbrev here : Cut s R small bytes r.0 r.1 read n used
  here = cut s R small bytes r.0 r.1 read n used t held asked

  alone_gave : plainly (plain (span_alone s r.1 n)) ≡ gives (0, here.state)
  alone_gave = run-plainly R _ _ (cut_gave s R small bytes r.0 r.1 read n used here)

  -- in another room the same is left
  there : (R' : Rooms) → run R' (plain s) ≡ gives r → run R' (plain (span_alone s r.1 n)) ≡ gives (0, here.state)
  there R' read' =
      let a = cut s R' small bytes r.0 r.1 read' n used t held asked in
      let g = cut_gave s R' small bytes r.0 r.1 read' n used a in
      g ∙ sym (run-plainly R' _ _ g) ∙ alone_gave

  in_room_lem : (nodes entries slots nesting : ℕ) (c : Counts) → (read_of s nodes entries slots nesting).answer ≡ gives c
      → (read_of (span_alone s r.1 n) nodes entries slots nesting).answer ≡ gives (counts_of here.state)
  in_room_lem nodes entries slots nesting c e =
      let a = answer-gives s nodes entries slots nesting c e in
      let R' = rooms_of nodes entries slots nesting in
      let g = (gives-within s nodes entries slots nesting a.read a.is).1 in
      let z : a.read ≡ r = same_gives a.read r (sym (run-plainly R' (plain s) a.read g) ∙ run-plainly R (plain s) r read) in
      answered_in (span_alone s r.1 n) (small-alone s R small bytes r.0 r.1 read n used here) nodes entries slots nesting (0, here.state) (there R' (g ∙ ap gives z))

  on_yes : Alone s r.1 n
  on_yes = span_alone_lem s R small bytes r.0 r.1 read n used here in_room_lem

spanned-node : (s : List ℕ) → Bytes s → (nodes entries slots nesting : ℕ) (c : Counts) → (read_of s nodes entries slots nesting).answer ≡ gives c → (n : ℕ) → n < c.nodes
    → Spanned s nodes entries slots nesting c n
unfolding end_of
spanned-node s bytes nodes entries slots nesting c e n l =
    let a = answer-gives s nodes entries slots nesting c e in
    let r = a.read in
    let R = rooms_of nodes entries slots nesting in
    let w = gives-within s nodes entries slots nesting r a.is in
    let used : n < length r.1.nodes = omega (arith, l, ap (λ z. z.nodes) a.counts) in
    let t = tables_read s nodes entries r in
    let held = stores_held s bytes nodes entries slots nesting r a.is in
    record {
      root = r.0;
      left = r.1;
      read = run-plainly R (plain s) r w.1;
      told =
          ap (λ z. span_of z n) a.tables
          ∙ span-told s R w.0 bytes r.0 r.1 w.1 t held n used (read-is_sound s bytes nodes entries slots nesting r a.is n used);
      sixth = ap (λ z. (node_of z n).end) a.tables ∙ ap (λ z. z.end) (held.node n used);
      seventh = ap (λ z. (node_of z n).input) a.tables ∙ input_held s R w.0 bytes r.0 r.1 w.1 t held n used;
      header = header-letter s R w.0 bytes r.0 r.1 w.1 t held n used;
      alone = on_yes s bytes R w.0 r w.1 n used t held;
    }

pub spans_keep_their_promises : Promised
spans_keep_their_promises = record { every_node = spanned-node }
