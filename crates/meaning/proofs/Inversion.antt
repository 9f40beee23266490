-- What a letter, its class, the shape of a node and a value say of one another: one computed test over the letters, and the kinds that a
-- code's parts must be of, in the stores and as values. Assumes nothing.
use mathlib.Core.Path.{◌≡◌, refl, sym, ap, ◌∙◌}
use Prim.Native.Nat.{ℕ, ◌≤◌}
use native.Mathlib.Omega.{arith}
use mathlib.Core.Bool.{Bool, true, false, cond, ◌&&◌}
use mathlib.Core.List.{List, [], ◌∷◌}
use lib.ListN.{length, get_or}
use lib.Dec.{eqb}
use borrow.Author.Tests.{eqb-true}
use Rattle.grammar.specs.Letters as letter
use Rattle.grammar.specs.Letters.{Class, refers, keeps, contains, codes, refuses, letters, found, class_of, among, is_bytes, is_tuple, is_string}
use Rattle.grammar.specs.Fields.{contents, le32, le64}
use Rattle.grammar.specs.State.{Node, State, blank}
use Rattle.grammar.specs.Steps.{Rule, whatever, as_bytes, as_tuple, as_names, as_string, letter_in, strings, suits}
use Rattle.grammar.proofs.Links.{Linked, More, child_of, next_of}
use Rattle.grammar.proofs.Tests.{both_true}
use Rattle.grammar.proofs.Lettered.{class_passes, among-each}
use Rattle.writing.specs.Canonical.{Integer, of_bits}
use Rattle.writing.specs.Shape as shape
use Rattle.writing.specs.Shape.{Shape, field, classed}
use Rattle.meaning.specs.Value.{Value, Values, nil, more, single, integer, float, complex, bytes, text, sequence, slice, dict, code}
use Rattle.meaning.specs.Proper.{singles, sequences, AllTexts, Suits}
use Rattle.meaning.proofs.Means.{Means, MeanAll, tag, tag_of, means_seen}
use Rattle.meaning.proofs.Standing.{InState}

-- a letter of each class
abbrev pub lettered : ℕ → Class → Bool
lettered l refers = true
lettered l (refuses number) = true
lettered l (keeps letter.single) = among l singles
lettered l (keeps (letter.fixed size)) = cond (eqb size 4) (eqb l 0x69) (eqb size 8 && among l (0x49 ∷ 0x67 ∷ []))
lettered l (keeps letter.double) = eqb l 0x79
lettered l (keeps letter.long) = eqb l 0x6C
lettered l (keeps letter.sequence) = among l sequences
lettered l (keeps letter.few) = eqb l 0x29
lettered l (keeps letter.slice) = eqb l 0x3A
lettered l (keeps letter.dict) = eqb l 0x7B
lettered l (contains letter.bytes) = is_bytes l
lettered l (contains letter.text) = is_string l
lettered l (contains letter.short) = is_string l
lettered l codes = eqb l 0x63

pub class_lettered : (l : ℕ) (c : Class) → class_of l ≡ c → lettered l c ≡ true
unfolding letters
class_lettered l c e = ap (lettered l) (sym e) ∙ class_passes lettered (λ l. refl) refl l

-- Shapes by class.
pub field-low : (l size : ℕ) (s : List ℕ) (at : ℕ) → (1 ≤ tag (field l size s at)) × (tag (field l size s at) ≤ 2)
field-low l size s at = go (eqb size 4) (eqb l 0x67) (of_bits 2147483648 (le32 s at)) (of_bits 9223372036854775808 (le64 s at)) (le64 s at)
  where
    go : (a b : Bool) (x y : Integer) (z : ℕ)
        → (1 ≤ tag (cond a (shape.integer x) (cond b (shape.float z) (shape.integer y)))) × (tag (cond a (shape.integer x) (cond b (shape.float z) (shape.integer y))) ≤ 2)
    go true b x y z = (omega arith, omega arith)
    go false true x y z = (omega arith, omega arith)
    go false false x y z = (omega arith, omega arith)

abbrev pub IsText : Class → Type 0
IsText refers = ⊥
IsText (refuses number) = ⊥
IsText (keeps form) = ⊥
IsText (contains letter.bytes) = ⊥
IsText (contains letter.text) = Unit
IsText (contains letter.short) = Unit
IsText codes = ⊥

module _ (s : List ℕ) (n : Node) (kids : List ℕ) where
  pub bytes_class : (c : Class) (cs : List ℕ) → classed s n kids c ≡ shape.bytes cs → (c ≡ contains letter.bytes) × (contents s n.place n.size ≡ cs)
  bytes_class refers cs e = absurd (omega (arith, ap tag e))
  bytes_class (refuses number) cs e = absurd (omega (arith, ap tag e))
  bytes_class (keeps letter.single) cs e = absurd (omega (arith, ap tag e))
  bytes_class (keeps (letter.fixed size)) cs e = absurd (omega (arith, ap tag e, (field-low n.letter size s n.place).1))
  bytes_class (keeps letter.double) cs e = absurd (omega (arith, ap tag e))
  bytes_class (keeps letter.long) cs e = absurd (omega (arith, ap tag e))
  bytes_class (keeps letter.sequence) cs e = absurd (omega (arith, ap tag e))
  bytes_class (keeps letter.few) cs e = absurd (omega (arith, ap tag e))
  bytes_class (keeps letter.slice) cs e = absurd (omega (arith, ap tag e))
  bytes_class (keeps letter.dict) cs e = absurd (omega (arith, ap tag e))
  bytes_class (contains letter.bytes) cs e = (refl, cc)
  bytes_class (contains letter.text) cs e = absurd (omega (arith, ap tag e))
  bytes_class (contains letter.short) cs e = absurd (omega (arith, ap tag e))
  bytes_class codes cs e = absurd (omega (arith, ap tag e))

  pub text_class : (c : Class) (cs : List ℕ) → classed s n kids c ≡ shape.text cs → IsText c × (contents s n.place n.size ≡ cs)
  text_class refers cs e = absurd (omega (arith, ap tag e))
  text_class (refuses number) cs e = absurd (omega (arith, ap tag e))
  text_class (keeps letter.single) cs e = absurd (omega (arith, ap tag e))
  text_class (keeps (letter.fixed size)) cs e = absurd (omega (arith, ap tag e, (field-low n.letter size s n.place).1))
  text_class (keeps letter.double) cs e = absurd (omega (arith, ap tag e))
  text_class (keeps letter.long) cs e = absurd (omega (arith, ap tag e))
  text_class (keeps letter.sequence) cs e = absurd (omega (arith, ap tag e))
  text_class (keeps letter.few) cs e = absurd (omega (arith, ap tag e))
  text_class (keeps letter.slice) cs e = absurd (omega (arith, ap tag e))
  text_class (keeps letter.dict) cs e = absurd (omega (arith, ap tag e))
  text_class (contains letter.bytes) cs e = absurd (omega (arith, ap tag e))
  text_class (contains letter.text) cs e = (tt, cc)
  text_class (contains letter.short) cs e = (tt, cc)
  text_class codes cs e = absurd (omega (arith, ap tag e))

  pub tuple_class : (c : Class) (ks : List ℕ) → class_of n.letter ≡ c → classed s n kids c ≡ shape.sequence 0x28 ks → (is_tuple n.letter ≡ true) × (kids ≡ ks)
  tuple_class refers ks q e = absurd (omega (arith, ap tag e))
  tuple_class (refuses number) ks q e = absurd (omega (arith, ap tag e))
  tuple_class (keeps letter.single) ks q e = absurd (omega (arith, ap tag e))
  tuple_class (keeps (letter.fixed size)) ks q e = absurd (omega (arith, ap tag e, (field-low n.letter size s n.place).1))
  tuple_class (keeps letter.double) ks q e = absurd (omega (arith, ap tag e))
  tuple_class (keeps letter.long) ks q e = absurd (omega (arith, ap tag e))
  tuple_class (keeps letter.sequence) ks q e =
      let z : n.letter ≡ 0x28 = cc in
      (ap is_tuple z, cc)
  tuple_class (keeps letter.few) ks q e =
      let z : n.letter ≡ 0x29 = eqb-true n.letter 0x29 (class_lettered n.letter (keeps letter.few) q) in
      (ap is_tuple z, cc)
  tuple_class (keeps letter.slice) ks q e = absurd (omega (arith, ap tag e))
  tuple_class (keeps letter.dict) ks q e = absurd (omega (arith, ap tag e))
  tuple_class (contains letter.bytes) ks q e = absurd (omega (arith, ap tag e))
  tuple_class (contains letter.text) ks q e = absurd (omega (arith, ap tag e))
  tuple_class (contains letter.short) ks q e = absurd (omega (arith, ap tag e))
  tuple_class codes ks q e = absurd (omega (arith, ap tag e))

is_string_lem : (l : ℕ) (c : Class) → class_of l ≡ c → IsText c → is_string l ≡ true
is_string_lem l refers e h = absurd h
is_string_lem l (refuses number) e h = absurd h
is_string_lem l (keeps form) e h = absurd h
is_string_lem l (contains letter.bytes) e h = absurd h
is_string_lem l (contains letter.text) e h = class_lettered l (contains letter.text) e
is_string_lem l (contains letter.short) e h = class_lettered l (contains letter.short) e
is_string_lem l codes e h = absurd h

-- The parts of a code, in the stores of a state.
module _ (s : List ℕ) (st : State) where
  pub bytes_letter_lem : (n : ℕ) (kids cs : List ℕ) → InState s st n kids (shape.bytes cs) → is_bytes (letter_in st.nodes n) ≡ true
  bytes_letter_lem n kids cs h =
      let node = get_or st.nodes n blank in
      let i = bytes_class s node kids (class_of node.letter) cs h.is in
      class_lettered node.letter (contains letter.bytes) i.0

  pub text-letter : (n : ℕ) (kids cs : List ℕ) → InState s st n kids (shape.text cs) → is_string (letter_in st.nodes n) ≡ true
  text-letter n kids cs h =
      let node = get_or st.nodes n blank in
      is_string_lem node.letter (class_of node.letter) refl (text_class s node kids (class_of node.letter) cs h.is).0

  pub tuple_letter_lem : (n : ℕ) (kids ks : List ℕ) → InState s st n kids (shape.sequence 0x28 ks) → is_tuple (letter_in st.nodes n) ≡ true
  tuple_letter_lem n kids ks h = let node = get_or st.nodes n blank in (tuple_class s node kids (class_of node.letter) ks refl h.is).0

  text-string : (n : ℕ) (v : Value) (cs : List ℕ) → v ≡ text cs → Means (InState s st) n v → is_string (letter_in st.nodes n) ≡ true
  unfolding Means
  text-string n v cs e m =
      let h : Means (InState s st) n (text cs) = rw e at m in
      text-letter n h.0 cs h.1

  more_strings : (vs : Values) → AllTexts vs → (kids : List ℕ) (e : ℕ) → More st.entries e kids → MeanAll (InState s st) kids vs
      → strings st.nodes st.entries (length kids) (next_of st.entries e) ≡ true
  unfolding strings Means
  more_strings nil ts kids e l m = rw m refl
  more_strings (more v vs) ts kids e l m =
      let l' : More st.entries e (m.0 ∷ m.1) = rw m.2 at l in
      rw (m.2, l'.2, text-string m.0 v ts.0 ts.1 m.3) (more_strings vs ts.2 m.1 (next_of st.entries e) l'.3 m.4)

  linked-strings : (vs : Values) → AllTexts vs → (kids : List ℕ) (e : ℕ) → Linked st.entries e kids → MeanAll (InState s st) kids vs
      → strings st.nodes st.entries (length kids) e ≡ true
  unfolding strings Means
  linked-strings nil ts kids e l m = rw m refl
  linked-strings (more v vs) ts kids e l m =
      let l' : Linked st.entries e (m.0 ∷ m.1) = rw m.2 at l in
      rw (m.2, l'.1, text-string m.0 v ts.0 ts.1 m.3) (more_strings vs ts.2 m.1 e l'.2 m.4)

  -- a value that suits as a part passes the test of its node
  pub suits-node : (rule : Rule) (n : ℕ) (v : Value) → Suits rule v → Means (InState s st) n v → suits rule st.nodes st.entries n ≡ true
  unfolding suits Means
  suits-node whatever n v f m = refl
  suits-node as_bytes n v f m =
      let h : Means (InState s st) n (bytes f.0) = rw f.1 at m in
      bytes_letter_lem n h.0 f.0 h.1
  suits-node as_tuple n v f m =
      let h : Means (InState s st) n (sequence 0x28 f.0) = rw f.1 at m in
      tuple_letter_lem n h.0 h.0 h.1
  suits-node as_names n v f m =
      let h : Means (InState s st) n (sequence 0x28 f.0) = rw f.1 at m in
      rw (tuple_letter_lem n h.0 h.0 h.1, h.1.counted)
      (linked-strings f.0 f.2 h.0 (get_or st.nodes n blank).first h.1.linked h.2)
  suits-node as_string n v f m =
      let h : Means (InState s st) n (text f.0) = rw f.1 at m in
      text-letter n h.0 f.0 h.1

-- A value by the number of its kind.
pub tagged_bytes : (v : Value) → tag_of v ≡ 4 → (cs : List ℕ) × (v ≡ bytes cs)
tagged_bytes (single letter) e = absurd (omega (arith, e))
tagged_bytes (integer z) e = absurd (omega (arith, e))
tagged_bytes (float bits) e = absurd (omega (arith, e))
tagged_bytes (complex real imaginary) e = absurd (omega (arith, e))
tagged_bytes (bytes cs) e = (cs, refl)
tagged_bytes (text cs) e = absurd (omega (arith, e))
tagged_bytes (sequence letter vs) e = absurd (omega (arith, e))
tagged_bytes (slice vs) e = absurd (omega (arith, e))
tagged_bytes (dict vs) e = absurd (omega (arith, e))
tagged_bytes (code numbers parts line tables) e = absurd (omega (arith, e))

pub tagged_text : (v : Value) → tag_of v ≡ 5 → (cs : List ℕ) × (v ≡ text cs)
tagged_text (single letter) e = absurd (omega (arith, e))
tagged_text (integer z) e = absurd (omega (arith, e))
tagged_text (float bits) e = absurd (omega (arith, e))
tagged_text (complex real imaginary) e = absurd (omega (arith, e))
tagged_text (bytes cs) e = absurd (omega (arith, e))
tagged_text (text cs) e = (cs, refl)
tagged_text (sequence letter vs) e = absurd (omega (arith, e))
tagged_text (slice vs) e = absurd (omega (arith, e))
tagged_text (dict vs) e = absurd (omega (arith, e))
tagged_text (code numbers parts line tables) e = absurd (omega (arith, e))

pub tagged_sequence : (v : Value) → tag_of v ≡ 6 → (l : ℕ) × (vs : Values) × (v ≡ sequence l vs)
tagged_sequence (single letter) e = absurd (omega (arith, e))
tagged_sequence (integer z) e = absurd (omega (arith, e))
tagged_sequence (float bits) e = absurd (omega (arith, e))
tagged_sequence (complex real imaginary) e = absurd (omega (arith, e))
tagged_sequence (bytes cs) e = absurd (omega (arith, e))
tagged_sequence (text cs) e = absurd (omega (arith, e))
tagged_sequence (sequence letter vs) e = (letter, vs, refl)
tagged_sequence (slice vs) e = absurd (omega (arith, e))
tagged_sequence (dict vs) e = absurd (omega (arith, e))
tagged_sequence (code numbers parts line tables) e = absurd (omega (arith, e))

-- the kind of a node by its letter
abbrev pub Tagged : ℕ → ℕ → Type 0
Tagged k l = (s : List ℕ) (n : Node) (kids : List ℕ) → tag (classed s n kids (class_of l)) ≡ k

pub bytes_tagged : (l : ℕ) → is_bytes l ≡ true → Tagged 4 l
unfolding class_of letters found
bytes_tagged l e = among-each (Tagged 4) l (0x73 ∷ []) ((λ s n kids. refl), tt) e

pub text_tagged : (l : ℕ) → is_string l ≡ true → Tagged 5 l
unfolding class_of letters found
text_tagged l e =
    among-each (Tagged 5) l (0x75 ∷ 0x74 ∷ 0x61 ∷ 0x41 ∷ 0x7A ∷ 0x5A ∷ [])
    ((λ s n kids. refl), ((λ s n kids. refl), ((λ s n kids. refl), ((λ s n kids. refl), ((λ s n kids. refl), ((λ s n kids. refl), tt)))))) e

-- and a tuple's letter is written as one
abbrev pub TupleShaped : ℕ → Type 0
TupleShaped l = (s : List ℕ) (n : Node) (kids : List ℕ) → n.letter ≡ l → classed s n kids (class_of l) ≡ shape.sequence 0x28 kids

pub tuple-shaped : (l : ℕ) → is_tuple l ≡ true → TupleShaped l
unfolding class_of letters found
tuple-shaped l e = among-each TupleShaped l (0x28 ∷ 0x29 ∷ []) ((λ s n kids q. ap (λ z. shape.sequence z kids) q), ((λ s n kids q. refl), tt)) e

pub same_letter : (l k : ℕ) (xs ys : List ℕ) → ◌≡◌ {A = Shape} (shape.sequence l xs) (shape.sequence k ys) → l ≡ k
same_letter l k xs ys e = cc

module _ (s : List ℕ) (st : State) where
  node-bytes : (n : ℕ) (v : Value) → is_bytes (letter_in st.nodes n) ≡ true → Means (InState s st) n v → (cs : List ℕ) × (v ≡ bytes cs)
  node-bytes n v e m =
      let h = means_seen (InState s st) n v m in
      tagged_bytes v (sym h.same ∙ ap tag (sym h.seen.is) ∙ bytes_tagged (letter_in st.nodes n) e s (get_or st.nodes n blank) h.kids)

  node-text : (n : ℕ) (v : Value) → is_string (letter_in st.nodes n) ≡ true → Means (InState s st) n v → (cs : List ℕ) × (v ≡ text cs)
  node-text n v e m =
      let h = means_seen (InState s st) n v m in
      tagged_text v (sym h.same ∙ ap tag (sym h.seen.is) ∙ text_tagged (letter_in st.nodes n) e s (get_or st.nodes n blank) h.kids)

  node-tuple : (n : ℕ) (v : Value) → is_tuple (letter_in st.nodes n) ≡ true → Means (InState s st) n v → (vs : Values) × (v ≡ sequence 0x28 vs)
  unfolding Means
  node-tuple n v e m =
      let h = means_seen (InState s st) n v m in
      let x = tuple-shaped (letter_in st.nodes n) e s (get_or st.nodes n blank) h.kids refl in
      let y = tagged_sequence v (sym h.same ∙ ap tag (sym h.seen.is ∙ x)) in
      let m' : Means (InState s st) n (sequence y.0 y.1) = rw y.2 at m in
      let z = same_letter y.0 0x28 m'.0 m'.0 (sym m'.1.is ∙ tuple-shaped (letter_in st.nodes n) e s (get_or st.nodes n blank) m'.0 refl) in
      (y.1, y.2 ∙ ap (λ l. sequence l y.1) z)

  more_texts : (vs : Values) (kids : List ℕ) (e : ℕ) → More st.entries e kids → MeanAll (InState s st) kids vs → strings st.nodes st.entries (length kids) (next_of st.entries e) ≡ true → AllTexts vs
  unfolding strings Means
  more_texts nil kids e l m q = tt
  more_texts (more v vs) kids e l m q =
      let l' : More st.entries e (m.0 ∷ m.1) = rw m.2 at l in
      let q' : strings st.nodes st.entries (length (m.0 ∷ m.1)) (next_of st.entries e) ≡ true = rw m.2 at q in
      let a = both_true (is_string (letter_in st.nodes (child_of st.entries (next_of st.entries e)))) (strings st.nodes st.entries (length m.1) (next_of st.entries (next_of st.entries e))) q' in
      let b = node-text m.0 v (ap (λ k. is_string (letter_in st.nodes k)) (sym l'.2) ∙ a.0) m.3 in
      (b.0, b.1, more_texts vs m.1 (next_of st.entries e) l'.3 m.4 a.1)

  linked_texts : (vs : Values) (kids : List ℕ) (e : ℕ) → Linked st.entries e kids → MeanAll (InState s st) kids vs → strings st.nodes st.entries (length kids) e ≡ true → AllTexts vs
  unfolding strings Means
  linked_texts nil kids e l m q = tt
  linked_texts (more v vs) kids e l m q =
      let l' : Linked st.entries e (m.0 ∷ m.1) = rw m.2 at l in
      let q' : strings st.nodes st.entries (length (m.0 ∷ m.1)) e ≡ true = rw m.2 at q in
      let a = both_true (is_string (letter_in st.nodes (child_of st.entries e))) (strings st.nodes st.entries (length m.1) (next_of st.entries e)) q' in
      let b = node-text m.0 v (ap (λ k. is_string (letter_in st.nodes k)) (sym l'.1) ∙ a.0) m.3 in
      (b.0, b.1, more_texts vs m.1 e l'.2 m.4 a.1)

  -- a node that passes the test of a part means a value that suits
  pub node-suits : (rule : Rule) (n : ℕ) (v : Value) → suits rule st.nodes st.entries n ≡ true → Means (InState s st) n v → Suits rule v
  unfolding suits Means
  node-suits whatever n v e m = tt
  node-suits as_bytes n v e m = node-bytes n v e m
  node-suits as_tuple n v e m = node-tuple n v e m
  node-suits as_names n v e m =
      let a = both_true (is_tuple (letter_in st.nodes n)) (strings st.nodes st.entries (get_or st.nodes n blank).count (get_or st.nodes n blank).first) e in
      let b = node-tuple n v a.0 m in
      let m' : Means (InState s st) n (sequence 0x28 b.0) = rw b.1 at m in
      (b.0, b.1, linked_texts b.0 m'.0 (get_or st.nodes n blank).first m'.1.linked m'.2 (ap (λ k. strings st.nodes st.entries k (get_or st.nodes n blank).first) (sym m'.1.counted) ∙ a.1))
  node-suits as_string n v e m = node-text n v e m

-- A code's class by its shape.
pub code_class_lem : (s : List ℕ) (n : Node) (kids : List ℕ) (c : Class) → tag (classed s n kids c) ≡ 9 → c ≡ codes
code_class_lem s n kids refers e = absurd (omega (arith, e))
code_class_lem s n kids (refuses number) e = absurd (omega (arith, e))
code_class_lem s n kids (keeps letter.single) e = absurd (omega (arith, e))
code_class_lem s n kids (keeps (letter.fixed size)) e = absurd (omega (arith, e, (field-low n.letter size s n.place).1))
code_class_lem s n kids (keeps letter.double) e = absurd (omega (arith, e))
code_class_lem s n kids (keeps letter.long) e = absurd (omega (arith, e))
code_class_lem s n kids (keeps letter.sequence) e = absurd (omega (arith, e))
code_class_lem s n kids (keeps letter.few) e = absurd (omega (arith, e))
code_class_lem s n kids (keeps letter.slice) e = absurd (omega (arith, e))
code_class_lem s n kids (keeps letter.dict) e = absurd (omega (arith, e))
code_class_lem s n kids (contains letter.bytes) e = absurd (omega (arith, e))
code_class_lem s n kids (contains letter.text) e = absurd (omega (arith, e))
code_class_lem s n kids (contains letter.short) e = absurd (omega (arith, e))
code_class_lem s n kids codes e = refl
