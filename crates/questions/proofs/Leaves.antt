-- The leaf answer is what is told of the value that its node means: one case a class of letters, whole numbers by Wholes, and that a value
-- found is proper by meaning's AnyStores. Assumes nothing but bytes for input.
use mathlib.Core.Path.{◌≡◌, refl, sym, ap, subst, ◌∙◌}
use Prim.Native.Nat.{ℕ, zero, suc, ◌+◌, ◌≤◌, ◌<◌}
use native.Mathlib.Omega.{arith}
use mathlib.Core.Bool.{Bool, true, false, cond, ◌&&◌}
use mathlib.Core.Option.{Option, none, some}
use mathlib.Core.List.{List, [], ◌∷◌}
use lib.ListN.{length, take, drop}
use lib.Dec.{eqb}
use borrow.Author.Tests.{lt-ltb, le-ltb, eqb-true}
use Rattle.std.specs.Prelude.{Result, Ok}
use Rattle.refusals.specs.Numbers.{input_too_long, bad_table}
use Rattle.refusals.specs.Faults.{refused}
use Rattle.refusals.specs.declared.Fault.{Fault}
use Rattle.refusals.specs.declared.Refusal.TheVariants.{InputTooLong, BadTable}
use Rattle.refusals.specs.Limits.{most_bytes}
use Rattle.grammar.specs.Reading.{Answer, gives, stops}
use Rattle.grammar.specs.Numbered.{numbered}
use Rattle.grammar.proofs.Numbered.{numbered_injective}
use Rattle.grammar.specs.Letters as letter
use Rattle.grammar.specs.Letters.{Class, refers, keeps, contains, codes, refuses, letters, found, class_of, among}
use Rattle.grammar.specs.Fields.{le32, le64, not_negative}
use Rattle.grammar.specs.State.{Node}
use Rattle.grammar.specs.Steps.{line_part}
use Rattle.grammar.specs.Record.{ruled, sound_at, Tables, chain, whole, node_of, Looked, holds, faulty, look}
use Rattle.grammar.specs.Record as test
use Rattle.grammar.specs.Leaf as definition
use Rattle.grammar.specs.Leaf.{leaf_as, leaf_of}
use Rattle.grammar.proofs.Tests.{never, both_true}
use Rattle.grammar.proofs.Lettered.{Each, among-each}
use Rattle.grammar.specs.Input.{Bytes}
use Rattle.grammar.proofs.Passed.{sound-ruled, sound_at_lem, whole-some, looked_held}
use Rattle.leaf.specs.Answers as answers
use Rattle.leaf.specs.Answers.{answered_of}
use Rattle.leaf.specs.declared.Told.{Told}
use Rattle.leaf.specs.declared.Leaf.TheVariants.{NotLeaf}
use Rattle.writing.specs.Canonical.{of_bits, shown_line}
use Rattle.writing.specs.Shape as shape
use Rattle.writing.specs.Shape.{Shape, shape_of, eight, field, classed, numbers_at, long_at}
use Rattle.writing.proofs.Numbers.{word_below}
use Rattle.meaning.specs.Value.{Value, Values, single, integer, float, complex, sequence, slice, dict}
use Rattle.meaning.specs.Extent.{depth_of}
use Rattle.meaning.specs.Proper.{singles, sequences, Proper}
use Rattle.meaning.specs.Meaning.{all_of, holding, code_of, shaped, looked_as, nowhere, value_of}
use Rattle.meaning.proofs.Means.{tag, means_seen}
use Rattle.meaning.proofs.Emits.{InTables}
use Rattle.meaning.proofs.Inversion.{lettered, class_lettered, field-low}
use Rattle.meaning.proofs.Sense.{long-below}
use Rattle.meaning.proofs.AnyStores.{leaf_none, found_is_known}
use Rattle.sillgarland.specs.Leaves.{leaf_struct}
use Rattle.promises.specs.Calls.{Reader, Writer, deserialize_value, sill_read, serialize_value, sill_write, on_bytes}
use Rattle.promises.specs.Demand2.{Demand2}
use Rattle.questions.specs.Leaves.{told, single_told, told_of, told_for, Question, leaf_question, sill_question, stores_in, node_in, Short, is_sound, leaf_letters, LeafByValue, LeafOfRead}
use Rattle.promises.proofs.Reading.{Exactly, deserialize_exactly, sill_read_exactly}
use Rattle.promises.proofs.Demand2.{small, demand_2}
use Rattle.questions.proofs.Wholes.{word_told, eight-told, long-told}

-- A node with children is no leaf, whatever they mean.
holding-told : (make : Values → Value) → ((vs : Values) → told_of (make vs) ≡ told NotLeaf 0 0) → (o : Option Values) → told_for (holding make o) ≡ told NotLeaf 0 0
holding-told make h none = refl
holding-told make h (some vs) = h vs

code-told : (numbers : List ℕ) (line : ℕ) (o q : Option Values) → told_for (code_of numbers line o q) ≡ told NotLeaf 0 0
code-told numbers line none q = refl
code-told numbers line (some ps) none = refl
code-told numbers line (some ps) (some ts) = refl

-- One sound node: f and g find the values of its children, and what is found of the node itself is proper.
module _ (t : Tables) (bytes : Bytes t.input) (n : ℕ) (ok : sound_at t.input t.nodes t.used_nodes n ≡ true)
    (f g : ℕ → Option Value) (proper : (v : Value) → looked_as f g t n (look t n) ≡ some v → Proper v) where
  abbrev s : List ℕ
  s = t.input

  abbrev node : Node
  node = node_of t n

  abbrev by_class : Class → Looked → Option Value
  by_class c (holds kids) = shaped f g (classed s node kids c)
  by_class c (faulty place) = none

  by_class_lem : (c : Class) → class_of node.letter ≡ c → (o : Looked) → looked_as f g t n o ≡ by_class c o
  unfolding shape_of
  by_class_lem c q (holds kids) = ap (λ x. shaped f g (classed s node kids x)) q
  by_class_lem c q (faulty place) = refl

  abbrev Answers : Type 0
  Answers = answers.told_of (leaf_as s node.letter node.place) ≡ told_for (looked_as f g t n (look t n))

  -- a record without children passes the whole test, and its shape is its value
  whole_none : node.count ≡ 0 → whole t n ≡ some []
  unfolding whole chain
  whole_none e = ap (λ b. cond b (chain t node.count node.first) none) ok ∙ ap (λ k. chain t k node.first) e

  held_alone : (c : Class) → ruled s node c ≡ true → tag (classed s node [] c) ≤ 3 → test.looked_as t n [] c ≡ holds []
  held_alone refers e l = never e
  held_alone (refuses number) e l = never e
  held_alone (keeps form) e l = refl
  held_alone (contains sort) e l = refl
  held_alone codes e l = absurd (omega arith)

  childless : (c : Class) → class_of node.letter ≡ c → ruled s node c ≡ true → tag (classed s node [] c) ≤ 3
      → looked_as f g t n (look t n) ≡ shaped f g (classed s node [] c)
  unfolding look
  childless c q e l =
      let held : look t n ≡ holds [] = ap (test.looked_of t n) (whole_none (leaf_none s node [] c (omega arith) e)) ∙ (ap (test.looked_as t n []) q ∙ held_alone c e l) in
      by_class_lem c q (look t n) ∙ ap (by_class c) held

  -- N F T S .
  single_told_lem : (l at : ℕ) → among l singles ≡ true → answers.told_of (leaf_as s l at) ≡ single_told l
  unfolding leaf_as
  single_told_lem l at = among-each (λ l. answers.told_of (leaf_as s l at) ≡ single_told l) l singles (refl, (refl, (refl, (refl, (refl, tt)))))

  -- i, I and g
  fixed-low : (size : ℕ) → tag (field node.letter size s node.place) ≤ 3
  fixed-low size = omega (arith, (field-low node.letter size s node.place).1)

  field_told : (l size at : ℕ) → lettered l (keeps (letter.fixed size)) ≡ true → answers.told_of (leaf_as s l at) ≡ told_for (shaped f g (field l size s at))
  unfolding leaf_as
  field_told l size at h = go (eqb size 4) h
    where
      go : (b : Bool) → cond b (eqb l 0x69) (eqb size 8 && among l (0x49 ∷ 0x67 ∷ [])) ≡ true
          → answers.told_of (leaf_as s l at) ≡ told_for (shaped f g (cond b (shape.integer (of_bits 2147483648 (le32 s at))) (eight l (le64 s at))))
      go true h = rw (eqb-true l 0x69 h) (word_told (le32 s at) (word_below s bytes at))
      go false h =
          among-each (λ l. answers.told_of (leaf_as s l at) ≡ told_for (shaped f g (eight l (le64 s at)))) l (0x49 ∷ 0x67 ∷ []) (eight-told (le64 s at) (long-below s bytes at), (refl, tt))
          (both_true (eqb size 8) (among l (0x49 ∷ 0x67 ∷ [])) h).1

  -- every other letter, whatever its children mean
  abbrev strings : List ℕ
  strings = 0x75 ∷ 0x74 ∷ 0x61 ∷ 0x41 ∷ 0x7A ∷ 0x5A ∷ []

  abbrev NoLeaf : ℕ → Type 0
  NoLeaf l = answers.told_of (leaf_as s l node.place) ≡ told NotLeaf 0 0

  other-told : (c : Class) (ls : List ℕ) → class_of node.letter ≡ c → Each NoLeaf ls → among node.letter ls ≡ true → ((kids : List ℕ) → told_for (shaped f g (classed s node kids c)) ≡ told NotLeaf 0 0) → Answers
  other-told c ls q each e h = among-each NoLeaf node.letter ls each e ∙ sym (ap told_for (by_class_lem c q (look t n)) ∙ none_told (look t n))
    where
      none_told : (o : Looked) → told_for (by_class c o) ≡ told NotLeaf 0 0
      none_told (holds kids) = h kids
      none_told (faulty place) = refl

  by_letter : (c : Class) → class_of node.letter ≡ c → ruled s node c ≡ true → Answers
  unfolding leaf_as Proper
  by_letter refers q e = never e
  by_letter (refuses number) q e = never e
  by_letter (keeps letter.single) q e =
      single_told_lem node.letter node.place (class_lettered node.letter (keeps letter.single) q) ∙ sym (ap told_for (childless (keeps letter.single) q e (omega arith)))
  by_letter (keeps (letter.fixed size)) q e =
      field_told node.letter size node.place (class_lettered node.letter (keeps (letter.fixed size)) q)
      ∙ sym (ap told_for (childless (keeps (letter.fixed size)) q e (fixed-low size)))
  by_letter (keeps letter.double) q e =
      ap (λ l. answers.told_of (leaf_as s l node.place)) (eqb-true node.letter 0x79 (class_lettered node.letter (keeps letter.double) q))
      ∙ sym (ap told_for (childless (keeps letter.double) q e (omega arith)))
  by_letter (keeps letter.long) q e =
      let found = childless (keeps letter.long) q e (omega arith) in
      ap (λ l. answers.told_of (leaf_as s l node.place)) (eqb-true node.letter 0x6C (class_lettered node.letter (keeps letter.long) q))
      ∙ (long-told (not_negative (le32 s node.place)) (long_at s node.place).magnitude (proper (integer (long_at s node.place)) found).0 ∙ sym (ap told_for found))
  by_letter (keeps letter.sequence) q e =
      other-told (keeps letter.sequence) sequences q (refl, (refl, (refl, (refl, tt)))) (class_lettered node.letter (keeps letter.sequence) q)
      (λ kids. holding-told (sequence node.letter) (λ vs. refl) (all_of f kids))
  by_letter (keeps letter.few) q e =
      other-told (keeps letter.few) (0x29 ∷ []) q (refl, tt) (rw (class_lettered node.letter (keeps letter.few) q) refl) (λ kids. holding-told (sequence 0x28) (λ vs. refl) (all_of f kids))
  by_letter (keeps letter.slice) q e =
      other-told (keeps letter.slice) (0x3A ∷ []) q (refl, tt) (rw (class_lettered node.letter (keeps letter.slice) q) refl) (λ kids. holding-told slice (λ vs. refl) (all_of f kids))
  by_letter (keeps letter.dict) q e =
      other-told (keeps letter.dict) (0x7B ∷ []) q (refl, tt) (rw (class_lettered node.letter (keeps letter.dict) q) refl) (λ kids. holding-told dict (λ vs. refl) (all_of f kids))
  by_letter (contains letter.bytes) q e = other-told (contains letter.bytes) (0x73 ∷ []) q (refl, tt) (class_lettered node.letter (contains letter.bytes) q) (λ kids. refl)
  by_letter (contains letter.text) q e = other-told (contains letter.text) strings q (refl, (refl, (refl, (refl, (refl, (refl, tt)))))) (class_lettered node.letter (contains letter.text) q) (λ kids. refl)
  by_letter (contains letter.short) q e = other-told (contains letter.short) strings q (refl, (refl, (refl, (refl, (refl, (refl, tt)))))) (class_lettered node.letter (contains letter.short) q) (λ kids. refl)
  by_letter codes q e =
      other-told codes (0x63 ∷ []) q (refl, tt) (rw (class_lettered node.letter codes q) refl)
      (λ kids. code-told (numbers_at s node.place) (shown_line (le32 s (node.place + node.size))) (all_of g (take line_part kids)) (all_of g (drop line_part kids)))

  pub leaf_by_value : Answers
  leaf_by_value = by_letter (class_of node.letter) refl (sound-ruled s node (sound_at_lem t n ok).1).1

  -- A leaf's letter has a form without children, whose value is there.
  shaped-some : (sh : Shape) → tag sh ≤ 3 → (v : Value) × (shaped f g sh ≡ some v)
  shaped-some (shape.single letter) l = (single letter, refl)
  shaped-some (shape.integer z) l = (integer z, refl)
  shaped-some (shape.float bits) l = (float bits, refl)
  shaped-some (shape.complex real imaginary) l = (complex real imaginary, refl)
  shaped-some (shape.bytes contents) l = absurd (omega arith)
  shaped-some (shape.text contents) l = absurd (omega arith)
  shaped-some (shape.sequence letter kids) l = absurd (omega arith)
  shaped-some (shape.slice kids) l = absurd (omega arith)
  shaped-some (shape.dict kids) l = absurd (omega arith)
  shaped-some (shape.code numbers line kids) l = absurd (omega arith)

  pub leaf_found : among node.letter leaf_letters ≡ true → (v : Value) × (looked_as f g t n (look t n) ≡ some v)
  unfolding class_of found letters
  leaf_found e =
      let low =
      among-each (λ l. tag (classed s node [] (class_of l)) ≤ 3) node.letter leaf_letters
      (omega arith, (omega arith, (omega arith, (omega arith, (omega arith, (omega arith, (fixed-low 8, (fixed-low 8, (omega arith, (omega arith, tt)))))))))) e in
      let v = shaped-some (classed s node [] (class_of node.letter)) low in
      (v.0, childless (class_of node.letter) refl (sound-ruled s node (sound_at_lem t n ok).1).1 low ∙ v.1)

-- Every letter past the ten is no leaf.
past : (b rest : Bool) (x y : definition.Leaf) → cond b true rest ≡ false → (rest ≡ false → y ≡ definition.not_leaf) → cond b x y ≡ definition.not_leaf
past true rest x y e h = never (sym e)
past false rest x y e h = h e

no_other : (s : List ℕ) (l at : ℕ) → among l leaf_letters ≡ false → leaf_as s l at ≡ definition.not_leaf
unfolding leaf_as
no_other s l at e =
    past (eqb l 0x4E) _ _ _ e (λ e.
    past (eqb l 0x46) _ _ _ e (λ e.
    past (eqb l 0x54) _ _ _ e (λ e.
    past (eqb l 0x2E) _ _ _ e (λ e.
    past (eqb l 0x53) _ _ _ e (λ e.
    past (eqb l 0x69) _ _ _ e (λ e.
    past (eqb l 0x49) _ _ _ e (λ e.
    past (eqb l 0x67) _ _ _ e (λ e.
    past (eqb l 0x79) _ _ _ e (λ e.
    past (eqb l 0x6C) _ _ _ e (λ e. refl))))))))))

-- Any allowance: one level is looked at, and f and g find the values below it.
record Below (t : Tables) (a n : ℕ) : Type 0 where
  f : ℕ → Option Value
  g : ℕ → Option Value
  looks : value_of a t n ≡ looked_as f g t n (look t n)

below : (t : Tables) (a n : ℕ) → 0 < a → Below t a n
unfolding value_of
below t zero n l = absurd (omega arith)
below t (suc zero) n l = record { f = nowhere; g = nowhere; looks = refl }
below t (suc (suc a)) n l = record { f = value_of (suc a) t; g = value_of a t; looks = refl }

module _ (t : Tables) (bytes : Bytes t.input) (small : length t.input ≤ most_bytes) (n : ℕ) (ok : sound_at t.input t.nodes t.used_nodes n ≡ true) (a : ℕ) (l : 0 < a) where
  abbrev b : Below t a n
  b = below t a n l

  proper : (v : Value) → looked_as b.f b.g t n (look t n) ≡ some v → Proper v
  proper v e = (found_is_known t bytes small a n v (b.looks ∙ e)).proper

  found-told : answers.told_of (leaf_as t.input (node_of t n).letter (node_of t n).place) ≡ told_for (value_of a t n)
  found-told = leaf_by_value t bytes n ok b.f b.g proper ∙ sym (ap told_for b.looks)

  leaf_valued : among (node_of t n).letter leaf_letters ≡ true → (v : Value) × (value_of a t n ≡ some v)
  leaf_valued h = let v = leaf_found t bytes n ok b.f b.g proper h in (v.0, b.looks ∙ v.1)

-- A question whose every call ends as the definition says: with the one result that has its numbers.
abbrev pub Exact : Question → Type 0
Exact Q = (c : Q.Calls) (r : Result Told Fault) → numbered r ≡ answered_of (leaf_of (Q.input c) (Q.nodes c) (Q.used c) (Q.node c)) → Q.end c ≡ Q.shown r

module _ (Q : Question) (exact : Exact Q) where
  so_answered : (c : Q.Calls) (r : Result Told Fault) (a : Answer definition.Leaf) → leaf_of (Q.input c) (Q.nodes c) (Q.used c) (Q.node c) ≡ a
      → numbered r ≡ answered_of a → Q.end c ≡ Q.shown r
  so_answered c r a e f = exact c r (f ∙ ap answered_of (sym e))

  sound-answered : (c : Q.Calls) → Short Q c → is_sound Q c ≡ true → Q.end c ≡ Q.shown (Ok (answers.told_of (leaf_as (Q.input c) (node_in Q c).letter (node_in Q c).place)))
  unfolding leaf_of
  sound-answered c short ok =
      let leaf = leaf_as (Q.input c) (node_in Q c).letter (node_in Q c).place in
      so_answered c (Ok (answers.told_of leaf)) (gives leaf) (rw (le-ltb most_bytes (length (Q.input c)) short, ok) refl) refl

  bad-answered : (c : Q.Calls) → Short Q c → is_sound Q c ≡ false → Q.end c ≡ Q.shown (refused BadTable (Q.node c))
  unfolding leaf_of
  bad-answered c short bad = so_answered c (refused BadTable (Q.node c)) (stops bad_table (Q.node c)) (rw (le-ltb most_bytes (length (Q.input c)) short, bad) refl) refl

  long-answered : (c : Q.Calls) → most_bytes < length (Q.input c) → Q.end c ≡ Q.shown (refused InputTooLong 0)
  unfolding leaf_of
  long-answered c long = so_answered c (refused InputTooLong 0) (stops input_too_long 0) (rw (lt-ltb most_bytes (length (Q.input c)) long) refl) refl

  by_value : LeafByValue Q
  by_value =
      record {
        told_of-value =
            λ c short ok entries used_entries a l.
            sound-answered c short ok ∙ ap (λ x. Q.shown (Ok x)) (found-told (stores_in Q c entries used_entries) (Q.bytes c) short (Q.node c) ok a l);
        leaf_means = λ c short ok h entries used_entries a l. leaf_valued (stores_in Q c entries used_entries) (Q.bytes c) short (Q.node c) ok a l h;
        other-letter = λ c short ok h. sound-answered c short ok ∙ ap (λ x. Q.shown (Ok (answers.told_of x))) (no_other (Q.input c) (node_in Q c).letter (node_in Q c).place h);
        bad_record = bad-answered;
        too_long = long-answered;
      }

  -- What was read: the node is sound, since it means a value.
  module _ (R : Reader) (of_bytes : (c : R.Calls) → Bytes (R.input c)) (exactly : Exactly R) (W : Writer) (D : Demand2 R W) where
    of_read : LeafOfRead R W D Q
    of_read r q h =
        let v = D.value r in
        let t = stores_in Q q (R.ends r.call).entries r.counts.entries in
        let a = suc (depth_of v) in
        let means : value_of a t (Q.node q) ≡ some v =
        (λ i. value_of a (record { input = h.input i; nodes = h.nodes i; entries = (R.ends r.call).entries; used_nodes = h.used i; used_entries = r.counts.entries }) (h.node i))
        ∙ (D.read r).means a (omega arith) in
        let short : Short Q q = subst (λ s. length s ≤ most_bytes) (sym h.input) (small R of_bytes exactly r) in
        let seen = means_seen (InTables t) (Q.node q) v (found_is_known t (Q.bytes q) short a (Q.node q) v means).means in
        let ok = (whole-some t (Q.node q) seen.kids (looked_held t (Q.node q) seen.kids seen.seen.held).linked).0 in
        by_value.told_of-value q short ok (R.ends r.call).entries r.counts.entries a (omega arith) ∙ ap (λ o. Q.shown (Ok (told_for o))) means

pub leaf_exact : Exact leaf_question
leaf_exact c r e = numbered_injective c.call.result r (c.call.meets ∙ sym e)

sill_exact : Exact sill_question
sill_exact c r e = c.call.meets ∙ ap leaf_struct (sym e)

-- of the function that is carried, and of the export
pub leaf_told : LeafByValue leaf_question × LeafByValue sill_question
leaf_told = (by_value leaf_question leaf_exact, by_value sill_question sill_exact)

pub leaf_of-read : LeafOfRead (on_bytes deserialize_value) serialize_value demand_2.0 leaf_question × LeafOfRead (on_bytes sill_read) sill_write demand_2.1 sill_question
leaf_of-read = (
  of_read leaf_question leaf_exact (on_bytes deserialize_value) (λ c. c.bytes) (λ c. deserialize_exactly c.call) serialize_value demand_2.0,
  of_read sill_question sill_exact (on_bytes sill_read) (λ c. c.bytes) (λ c. sill_read_exactly c.call) sill_write demand_2.1,
)
