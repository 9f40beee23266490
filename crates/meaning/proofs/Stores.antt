-- What a state's nodes mean, the stores that are left mean: the record test passes for every node, and for a code its parts too, so that
-- what was read is what the writer finds. Assumes that the input is bytes, and an accepted reading.
use mathlib.Core.Path.{◌≡◌, refl, sym, ap, ap₂, subst, ◌∙◌}
use Prim.Native.Nat.{ℕ, ◌+◌, ◌<◌}
use native.Mathlib.Omega.{arith}
use mathlib.Core.Bool.{true}
use mathlib.Core.Option.{none, some}
use mathlib.Core.List.{List, [], ◌∷◌}
use lib.ListN.{length, get_or, take, drop, take-append-drop}
use lib.Dec.{leb}
use borrow.Author.Tests.{eq-eqb}
use Rattle.refusals.specs.Numbers.{accepted}
use Rattle.grammar.specs.Reading.{gives}
use Rattle.grammar.specs.Letters.{Class, refers, keeps, contains, codes, refuses, class_of, is_bytes, is_tuple, is_string}
use Rattle.grammar.specs.Arguments.{argument_sum}
use Rattle.grammar.specs.Fields.{sum_at, code_fault}
use Rattle.grammar.specs.State.{Entry, State, blank}
use Rattle.grammar.specs.Steps.{Rule, whatever, as_bytes, as_tuple, as_names, as_string, rules, code_part, locals_part, kinds_part, line_part}
use Rattle.grammar.specs.Answer.{reading}
use Rattle.grammar.specs.Record.{ruled, sound, Tables, whole, node_of, bad_string, unless, suited, or_else, bad_part, bad_end, holds, judged, looked_as, looked_of, look}
use Rattle.grammar.proofs.Tests.{both_true}
use Rattle.grammar.specs.Input.{Bytes}
use Rattle.grammar.proofs.Links.{Linked, More, next_of}
use Rattle.grammar.proofs.ReadBack.{tables_read, accepted as accepted_so, node_held, read-is_sound, read_is_whole}
use Rattle.writing.specs.Shape as shape
use Rattle.writing.specs.Shape.{Shape, shape_of, classed, numbers_at}
use Rattle.meaning.specs.Value.{Value, Values, nil, more, single, integer, float, complex, bytes as byte_string, text, sequence, slice, dict, code, count_of, value_at, contents_of, members_of}
use Rattle.meaning.specs.Proper.{AllTexts, Suits, SuitFrom, fault_in, ProperCode, Proper, ProperAll}
use Rattle.meaning.proofs.Means.{Means, MeanAll, join, tag, means_seen, mean_at}
use Rattle.meaning.proofs.Standing.{InState}
use Rattle.meaning.proofs.Inversion.{bytes_letter_lem, text-letter, tuple_letter_lem, code_class_lem}
use Rattle.meaning.proofs.Parts.{count-join, looked_at, mean_all_join, suit_join}
use Rattle.meaning.proofs.Emits.{InTables}

-- A chain is one list of children.
more_same : (es : List Entry) (e : ℕ) (vs ws : List ℕ) → length vs ≡ length ws → More es e vs → More es e ws → vs ≡ ws
more_same es e [] [] l p q = refl
more_same es e [] (w ∷ ws) l p q = absurd (omega (arith, l))
more_same es e (v ∷ vs) [] l p q = absurd (omega (arith, l))
more_same es e (v ∷ vs) (w ∷ ws) l p q = ap₂ (λ x y. x ∷ y) (sym p.2 ∙ q.2) (more_same es (next_of es e) vs ws (omega (arith, l)) p.3 q.3)

linked_same : (es : List Entry) (e : ℕ) (vs ws : List ℕ) → length vs ≡ length ws → Linked es e vs → Linked es e ws → vs ≡ ws
linked_same es e [] [] l p q = refl
linked_same es e [] (w ∷ ws) l p q = absurd (omega (arith, l))
linked_same es e (v ∷ vs) [] l p q = absurd (omega (arith, l))
linked_same es e (v ∷ vs) (w ∷ ws) l p q = ap₂ (λ x y. x ∷ y) (sym p.1 ∙ q.1) (more_same es e vs ws (omega (arith, l)) p.2 q.2)

-- rules by their positions
abbrev pub RulesAre : ℕ → List Rule → Type 0
RulesAre i [] = Unit
RulesAre i (r ∷ rs) = (r ≡ get_or rules i whatever) × RulesAre (i + 1) rs

pub all_rules : RulesAre 0 rules
unfolding rules
all_rules = (refl, (refl, (refl, (refl, (refl, (refl, (refl, (refl, (refl, (refl, tt))))))))))

module _ (s : List ℕ) (bytes : Bytes s) (cells entries slots nesting : ℕ) (r : ℕ × State) (e : reading s cells entries slots nesting ≡ gives r) where
  abbrev t : Tables
  t = tables_read s cells entries r

  abbrev st : State
  st = r.1

  held : (n : ℕ) → n < length st.nodes → node_of t n ≡ get_or st.nodes n blank
  held n l = node_held s bytes cells entries slots nesting r e n l

  whole_is : (n : ℕ) (kids : List ℕ) (sh : Shape) → InState s st n kids sh → whole t n ≡ some kids
  whole_is n kids sh h =
      let f = (accepted_so s bytes cells entries slots nesting r e).finished n h.within in
      read_is_whole s bytes cells entries slots nesting r e n h.within
      ∙ ap some (linked_same st.entries (get_or st.nodes n blank).first f.kids kids (sym f.counted ∙ h.counted) f.linked h.linked)

  shape_is : (n : ℕ) (kids : List ℕ) (sh : Shape) → InState s st n kids sh → shape_of t n kids ≡ sh
  unfolding shape_of
  shape_is n kids sh h = ap (λ z. classed s z kids (class_of z.letter)) (held n h.within) ∙ h.is

  -- a node that is no code is held
  plain_held : (n : ℕ) (kids : List ℕ) (sh : Shape) → InState s st n kids sh → tag sh < 9 → InTables t n kids sh
  unfolding look sound
  plain_held n kids sh h l =
      let node = get_or st.nodes n blank in
      let a = both_true (leb (node.place + node.size) (length s)) (ruled s node (class_of node.letter)) h.own in
      record {
        held = ap (looked_of t n) (whole_is n kids sh h) ∙ ap (λ z. looked_as t n kids (class_of z.letter)) (held n h.within) ∙ go (class_of node.letter) a.1 h.is;
        is = shape_is n kids sh h;
      }
    where
      go : (c : Class) → ruled s (get_or st.nodes n blank) c ≡ true → classed s (get_or st.nodes n blank) kids c ≡ sh → looked_as t n kids c ≡ holds kids
      go refers q p = let z : ◌≡◌ {A = ℕ} 0 1 = cc in absurd (omega arith)
      go (refuses number) q p = let z : ◌≡◌ {A = ℕ} 0 1 = cc in absurd (omega arith)
      go (keeps form) q p = refl
      go (contains sort) q p = refl
      go codes q p = absurd (omega (arith, ap tag p, l))

  -- The parts of a code pass their tests.
  strings_held : (vs : Values) → AllTexts vs → (kids : List ℕ) → MeanAll (InState s st) kids vs → bad_string t kids ≡ none
  unfolding bad_string Means
  strings_held nil ts kids m = rw m refl
  strings_held (more v vs) ts kids m =
      let q : Means (InState s st) m.0 (text ts.0) = rw ts.1 at m.3 in
      let w = q.1.within in
      rw (m.2, read-is_sound s bytes cells entries slots nesting r e m.0 w, ap (λ z. is_string z.letter) (held m.0 w) ∙ text-letter s st m.0 q.0 ts.0 q.1) (strings_held vs ts.2 m.1 m.4)

  part_held : (rule : Rule) (n : ℕ) (v : Value) → Suits rule v → Means (InState s st) n v → suited t rule n (whole t n) ≡ none
  unfolding Means
  part_held whatever n v f m =
      let h = means_seen (InState s st) n v m in
      ap (suited t whatever n) (whole_is n h.kids h.shape h.seen)
  part_held as_bytes n v f m =
      let q : Means (InState s st) n (byte_string f.0) = rw f.1 at m in
      rw (whole_is n q.0 (shape.bytes f.0) q.1, ap (λ z. is_bytes z.letter) (held n q.1.within) ∙ bytes_letter_lem s st n q.0 f.0 q.1) refl
  part_held as_tuple n v f m =
      let q : Means (InState s st) n (sequence 0x28 f.0) = rw f.1 at m in
      rw (whole_is n q.0 (shape.sequence 0x28 q.0) q.1, ap (λ z. is_tuple z.letter) (held n q.1.within) ∙ tuple_letter_lem s st n q.0 q.0 q.1) refl
  part_held as_names n v f m =
      let q : Means (InState s st) n (sequence 0x28 f.0) = rw f.1 at m in
      rw (whole_is n q.0 (shape.sequence 0x28 q.0) q.1, ap (λ z. is_tuple z.letter) (held n q.1.within) ∙ tuple_letter_lem s st n q.0 q.0 q.1) (strings_held f.0 f.2 q.0 q.2)
  part_held as_string n v f m =
      let q : Means (InState s st) n (text f.0) = rw f.1 at m in
      rw (whole_is n q.0 (shape.text f.0) q.1, ap (λ z. is_string z.letter) (held n q.1.within) ∙ text-letter s st n q.0 f.0 q.1) refl

  parts_held : (vs : Values) (i : ℕ) (rs : List Rule) (kids : List ℕ) → SuitFrom i vs → RulesAre i rs → MeanAll (InState s st) kids vs → bad_part t rs kids ≡ none
  unfolding bad_part SuitFrom Means
  parts_held nil i [] kids f q m = refl
  parts_held nil i (x ∷ rs) kids f q m = rw m refl
  parts_held (more v vs) i [] kids f q m = refl
  parts_held (more v vs) i (x ∷ rs) kids f q m =
      rw (m.2, q.0, part_held (get_or rules i whatever) m.0 v f.0 m.3) (parts_held vs (i + 1) rs m.1 f.1 q.1 m.4)

  -- A code: its parts and its end.
  end_held : (n : ℕ) (kids : List ℕ) (parts tables : Values) (numbers : List ℕ) → n < length st.nodes → MeanAll (InState s st) kids (join parts tables) → count_of parts ≡ line_part → SuitFrom 0 parts
      → numbers_at s (get_or st.nodes n blank).place ≡ numbers → fault_in numbers parts ≡ accepted → bad_end t n kids ≡ none
  unfolding bad_end
  end_held n kids parts tables numbers w m eight f ns fault =
      let l = looked_at s st kids parts tables m eight f in
      ap (λ b. unless b n)
      (eq-eqb _ accepted
      (four (ap (λ z. z.place) (held n w)) (ap (λ z. z.size) (kid 0 (omega arith)) ∙ l.code-size) (ap (λ z. z.count) (kid 3 (omega arith)) ∙ l.names-count) (ap (λ z. z.size) (kid 4 (omega arith)) ∙ l.kinds-size)
      ∙ ap (λ z. code_fault (argument_sum (get_or z 0 0) (get_or z 2 0) (get_or z 4 0)) (length (contents_of (value_at parts code_part))) (count_of (members_of (value_at parts locals_part))) (length (contents_of (value_at parts kinds_part)))) ns ∙ fault))
    where
      four : {p p' a a' b b' c c' : ℕ} → p ≡ p' → a ≡ a' → b ≡ b' → c ≡ c' → code_fault (sum_at s p) a b c ≡ code_fault (sum_at s p') a' b' c'
      four q x y z = rw (q, x, y, z) refl

      kid : (i : ℕ) → i < line_part → node_of t (get_or kids i 0) ≡ get_or st.nodes (get_or kids i 0) blank
      kid i h =
          let x = mean_at (InState s st) i (join parts tables) kids m (omega (arith, count-join parts tables, eight)) in
          held (get_or kids i 0) (means_seen (InState s st) (get_or kids i 0) (value_at (join parts tables) i) x).seen.within

  code_held : (n : ℕ) (kids : List ℕ) (numbers : List ℕ) (word : ℕ) (parts : Values) (line : ℕ) (tables : Values) → InState s st n kids (shape.code numbers word kids)
      → MeanAll (InState s st) (take line_part kids) parts → MeanAll (InState s st) (drop line_part kids) tables → ProperCode numbers parts line tables → InTables t n kids (shape.code numbers word kids)
  unfolding look
  code_held n kids numbers word parts line tables h mp mt p =
      let node = get_or st.nodes n blank in
      let c : class_of node.letter ≡ codes = code_class_lem s node kids (class_of node.letter) (ap tag h.is) in
      let is' : classed s node kids codes ≡ shape.code numbers word kids = ap (classed s node kids) (sym c) ∙ h.is in
      let m : MeanAll (InState s st) kids (join parts tables) =
      subst (λ x. MeanAll (InState s st) x (join parts tables)) (take-append-drop line_part kids) (mean_all_join (InState s st) parts tables (take line_part kids) (drop line_part kids) mp mt) in
      let f = suit_join 0 parts tables p.parts_suit (subst (λ i. SuitFrom (0 + i) tables) (sym p.eight) p.tables_suit) in
      record {
        held =
            ap (looked_of t n) (whole_is n kids _ h) ∙ ap (λ z. looked_as t n kids (class_of z.letter)) (held n h.within) ∙ ap (looked_as t n kids) c
            ∙ ap₂ (λ x y. judged n kids (or_else x y)) (parts_held (join parts tables) 0 rules kids f all_rules m) (end_held n kids parts tables numbers h.within m p.eight p.parts_suit (code_numbers_lem is') p.no_fault);
        is = shape_is n kids _ h;
      }
    where
      code_numbers_lem : {xs ys : List ℕ} {x y : ℕ} {ks ls : List ℕ} → ◌≡◌ {A = Shape} (shape.code xs x ks) (shape.code ys y ls) → xs ≡ ys
      code_numbers_lem e = cc

  -- What a node means in the state, it means in the stores.
  mutual
    unfolding Means Proper

    pub in_tables : (v : Value) (n : ℕ) → Means (InState s st) n v → Proper v → Means (InTables t) n v
    in_tables (single letter) n m p = (m.0, plain_held n m.0 _ m.1 (omega arith))
    in_tables (integer z) n m p = (m.0, plain_held n m.0 _ m.1 (omega arith))
    in_tables (float bits) n m p = (m.0, plain_held n m.0 _ m.1 (omega arith))
    in_tables (complex real imaginary) n m p = (m.0, plain_held n m.0 _ m.1 (omega arith))
    in_tables (byte_string contents) n m p = (m.0, plain_held n m.0 _ m.1 (omega arith))
    in_tables (text contents) n m p = (m.0, plain_held n m.0 _ m.1 (omega arith))
    in_tables (sequence letter vs) n m p = (m.0, plain_held n m.0 _ m.1 (omega arith), all_in_tables vs m.0 m.2 p.2)
    in_tables (slice vs) n m p = (m.0, plain_held n m.0 _ m.1 (omega arith), all_in_tables vs m.0 m.2 p.1)
    in_tables (dict vs) n m p = (m.0, plain_held n m.0 _ m.1 (omega arith), all_in_tables vs m.0 m.2 p.1)
    in_tables (code numbers parts line tables) n m p =
        (m.0, m.1, code_held n m.0 numbers m.1 parts line tables m.2 m.4 m.5 p.0, m.3, all_in_tables parts (take line_part m.0) m.4 p.1, all_in_tables tables (drop line_part m.0) m.5 p.2)

    all_in_tables : (vs : Values) (kids : List ℕ) → MeanAll (InState s st) kids vs → ProperAll vs → MeanAll (InTables t) kids vs
    all_in_tables nil kids m p = m
    all_in_tables (more v vs) kids m p = (m.0, m.1, m.2, in_tables v m.0 m.3 p.0, all_in_tables vs m.1 m.4 p.1)
