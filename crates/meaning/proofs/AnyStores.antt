-- Where `value_of` finds a value, in any stores whatever, the node means it, it is proper and no deeper than the allowance; so that its
-- writing is `written_as` of that value, and in name order the canonical bytes. By induction on the allowance. Assumes that the input is bytes.
use mathlib.Core.Path.{◌≡◌, refl, sym, ap, subst, ◌∙◌}
use Prim.Native.Nat.{ℕ, zero, suc, ◌+◌, ◌*◌, ◌≤◌, ◌<◌, min}
use native.Mathlib.Omega.{arith}
use mathlib.Core.Bool.{Bool, true, false, cond, ◌&&◌}
use mathlib.Core.Option.{Option, none, some}
use mathlib.Core.List.{List, [], ◌∷◌}
use lib.ListN.{length, get_or, take, drop, take-append-drop}
use lib.Dec.{leb, eqb}
use borrow.Author.Tests.{eqb-true, leb-true}
use Rattle.refusals.specs.Numbers.{accepted}
use Rattle.refusals.specs.Limits.{most_bytes, most_nesting}
use Rattle.grammar.specs.Reading.{Answer, gives, stops}
use Rattle.grammar.specs.Letters as letter
use Rattle.grammar.specs.Letters.{Class, refers, keeps, contains, codes, refuses, class_of}
use Rattle.grammar.specs.Fields.{Fields, le16, le32, le64, digit_count, last_digit, pylong, sum_at, code_fault, fields}
use Rattle.grammar.specs.State.{Node, start}
use Rattle.grammar.specs.Steps.{as_bytes, as_names, rules, line_part}
use Rattle.grammar.specs.Record.{containing, reads_as, ruled, sound, Tables, node_of, bad_end, Looked, holds, faulty, look}
use Rattle.grammar.specs.Input.{Bytes}
use Rattle.grammar.proofs.Tests.{none-some, same_some, both_true}
use Rattle.grammar.proofs.Passed.{unless_none, sound-ruled, code-ruled, Held, looked_held}
use Rattle.writing.specs.Canonical.{Integer, of_bits, shown_line}
use Rattle.writing.specs.Shape as shape
use Rattle.writing.specs.Shape.{Shape, shape_of, classed}
use Rattle.writing.specs.Answer.{most_output, written}
use Rattle.meaning.specs.Value.{Value, Values, nil, more, single, integer, float, complex, bytes as byte_string, text, sequence, slice, dict, code, count_of, value_at, contents_of, members_of}
use Rattle.meaning.specs.Canonical.{canonical}
use Rattle.meaning.specs.Extent.{depth_of, depth_all}
use Rattle.meaning.specs.Order.{InOrder}
use Rattle.meaning.specs.Proper.{Suits, Proper, ProperAll}
use Rattle.meaning.specs.Written.{written_as}
use Rattle.meaning.specs.Meaning.{put, all_of, holding, code_of, shaped, looked_as, nowhere, value_of}
use Rattle.meaning.proofs.Means.{Means, MeanAll, take_of, join, tag, mean_at, mean_all_count}
use Rattle.meaning.proofs.Inversion.{bytes_class}
use Rattle.meaning.proofs.Parts.{suit_at, contents-length, mean_all_join}
use Rattle.meaning.proofs.Emits.{InTables}
use Rattle.meaning.proofs.Sense.{CodeGood, sound_sense, reads-cond, digits-passed}
use Rattle.meaning.proofs.Stores.{all_rules}
use Rattle.meaning.proofs.Hostile.{good_parts}
use Rattle.meaning.proofs.RoundTrip.{written_as_lem, written_is}
use Rattle.meaning.proofs.Unique.{means_one, by_tables}

-- A record without children has none.
last_reads : (s : List ℕ) (k at : ℕ) (r : Answer Fields) (n : Node) → reads_as (last_digit s k at r) n ≡ true → reads_as r n ≡ true
last_reads s zero at r n e = e
last_reads s (suc k) at r n e = go (eqb (le16 s (at + 2 * k)) 0) e
  where
    go : (b : Bool) → reads_as (cond b (stops 8 (at + 2 * k)) r) n ≡ true → reads_as r n ≡ true
    go true e = let z : ◌≡◌ {A = ℕ} 0 1 = cc in absurd (omega arith)
    go false e = e

none_counted : (n : Node) (size : ℕ) → eqb n.size size && eqb n.count 0 ≡ true → n.count ≡ 0
none_counted n size e = eqb-true n.count 0 (both_true (eqb n.size size) (eqb n.count 0) e).1

pub leaf_none : (s : List ℕ) (n : Node) (kids : List ℕ) (c : Class) → tag (classed s n kids c) ≤ 5 → ruled s n c ≡ true → n.count ≡ 0
unfolding fields pylong
leaf_none s n kids refers l e = let z : ◌≡◌ {A = ℕ} 0 1 = cc in absurd (omega arith)
leaf_none s n kids (refuses number) l e = let z : ◌≡◌ {A = ℕ} 0 1 = cc in absurd (omega arith)
leaf_none s n kids (keeps letter.single) l e = none_counted n 0 e
leaf_none s n kids (keeps (letter.fixed size)) l e = none_counted n size (reads-cond (leb (n.place + size) (length s)) _ _ _ n e).1
leaf_none s n kids (keeps letter.double) l e =
    none_counted n 16 (reads-cond (leb (n.place + 8 + 8) (length s)) _ _ _ n (reads-cond (leb (n.place + 8) (length s)) _ _ _ n e).1).1
leaf_none s n kids (keeps letter.long) l e =
    let k = digit_count (le32 s n.place) in
    let a = reads-cond (leb (n.place + 4) (length s)) _ _ _ n e in
    let b = digits-passed s k (n.place + 4) _ n (leb-true (n.place + 4) (length s) a.0) a.1 in
    none_counted n (4 + 2 * k) (last_reads s k (n.place + 4) _ n b.2)
leaf_none s n kids (keeps letter.sequence) l e = absurd (omega arith)
leaf_none s n kids (keeps letter.few) l e = absurd (omega arith)
leaf_none s n kids (keeps letter.slice) l e = absurd (omega arith)
leaf_none s n kids (keeps letter.dict) l e = absurd (omega arith)
leaf_none s n kids (contains sort) l e = eqb-true n.count 0 (both_true (eqb n.count 0) (containing s n sort) e).0
leaf_none s n kids codes l e = absurd (omega arith)

take_at : (k i : ℕ) (us : Values) → i < k → value_at (take_of k us) i ≡ value_at us i
unfolding take_of value_at
take_at zero i us h = absurd (omega arith)
take_at (suc k) i nil h = refl
take_at (suc k) zero (more u us) h = refl
take_at (suc k) (suc i) (more u us) h = take_at k i us (omega arith)

-- The children that a shape names are the node's.
abbrev kids_in : Shape → List ℕ → List ℕ
kids_in (shape.single letter) kids = kids
kids_in (shape.integer z) kids = kids
kids_in (shape.float bits) kids = kids
kids_in (shape.complex real imaginary) kids = kids
kids_in (shape.bytes contents) kids = kids
kids_in (shape.text contents) kids = kids
kids_in (shape.sequence letter ks) kids = ks
kids_in (shape.slice ks) kids = ks
kids_in (shape.dict ks) kids = ks
kids_in (shape.code numbers line ks) kids = ks

classed-kids : (s : List ℕ) (n : Node) (kids : List ℕ) (c : Class) → kids_in (classed s n kids c) kids ≡ kids
classed-kids s n kids refers = refl
classed-kids s n kids (refuses number) = refl
classed-kids s n kids (keeps letter.single) = refl
classed-kids s n kids (keeps (letter.fixed size)) = go (eqb size 4) (eqb n.letter 0x67) (of_bits 2147483648 (le32 s n.place)) (of_bits 9223372036854775808 (le64 s n.place)) (le64 s n.place)
  where
    go : (a b : Bool) (x y : Integer) (z : ℕ) → kids_in (cond a (shape.integer x) (cond b (shape.float z) (shape.integer y))) kids ≡ kids
    go true b x y z = refl
    go false true x y z = refl
    go false false x y z = refl
classed-kids s n kids (keeps letter.double) = refl
classed-kids s n kids (keeps letter.long) = refl
classed-kids s n kids (keeps letter.sequence) = refl
classed-kids s n kids (keeps letter.few) = refl
classed-kids s n kids (keeps letter.slice) = refl
classed-kids s n kids (keeps letter.dict) = refl
classed-kids s n kids (contains letter.bytes) = refl
classed-kids s n kids (contains letter.text) = refl
classed-kids s n kids (contains letter.short) = refl
classed-kids s n kids codes = refl

proper-join : (us vs : Values) → ProperAll us → ProperAll vs → ProperAll (join us vs)
unfolding join Proper
proper-join nil vs p q = q
proper-join (more u us) vs p q = (p.0, proper-join us vs p.1 q)

holding-some : (make : Values → Value) (o : Option Values) (v : Value) → holding make o ≡ some v → (vs : Values) × (o ≡ some vs) × (make vs ≡ v)
holding-some make none v e = none-some e
holding-some make (some vs) v e = (vs, refl, same_some e)

code-some : (numbers : List ℕ) (line : ℕ) (o q : Option Values) (v : Value) → code_of numbers line o q ≡ some v → (ps : Values) × (ts : Values) × (o ≡ some ps) × (q ≡ some ts) × (code numbers ps line ts ≡ v)
code-some numbers line none q v e = none-some e
code-some numbers line (some ps) none v e = none-some e
code-some numbers line (some ps) (some ts) v e = (ps, ts, refl, refl, same_some e)

module _ (t : Tables) (bytes : Bytes t.input) (small : length t.input ≤ most_bytes) where
  abbrev s : List ℕ
  s = t.input

  -- The checks at a code's end, by its parts.
  size_held : (n : ℕ) (v : Value) → Suits as_bytes v → Means (InTables t) n v → (node_of t n).size ≡ length (contents_of v)
  unfolding Means shape_of contents_of
  size_held n v f m =
      let q : Means (InTables t) n (byte_string f.0) = rw f.1 at m in
      let h = looked_held t n q.0 q.1.held in
      sym (contents-length s start (node_of t n) h.own) ∙ ap length (bytes_class s (node_of t n) q.0 (class_of (node_of t n).letter) f.0 q.1.is).1 ∙ sym (ap (λ z. length (contents_of z)) f.1)

  count_held : (n : ℕ) (v : Value) → Suits as_names v → Means (InTables t) n v → (node_of t n).count ≡ count_of (members_of v)
  unfolding Means members_of
  count_held n v f m =
      let q : Means (InTables t) n (sequence 0x28 f.0) = rw f.1 at m in
      let h = looked_held t n q.0 q.1.held in
      h.many ∙ mean_all_count (InTables t) f.0 q.0 q.2 ∙ sym (ap (λ z. count_of (members_of z)) f.1)

  code_good : (n : ℕ) (kids : List ℕ) (us : Values) → MeanAll (InTables t) kids us → count_of us ≡ 10 → Held t n kids → class_of (node_of t n).letter ≡ codes → CodeGood s (node_of t n).place us
  unfolding bad_end rules
  code_good n kids us m ten h c =
      let g = h.good c in
      let f = good_parts t us 0 rules kids m all_rules (omega (arith, ten)) g.0 in
      let part : (i : ℕ) → i < 10 → Means (InTables t) (get_or kids i 0) (value_at us i) = λ i l. mean_at (InTables t) i us kids m (omega (arith, ten)) in
      let fault = eqb-true _ accepted (unless_none _ n g.1) in
      record {
        suit = f;
        no_fault =
            four (sum_at s (node_of t n).place) (size_held (get_or kids 0 0) (value_at us 0) (suit_at 0 0 us f (omega (arith, ten))) (part 0 (omega arith)) ∙ ap (λ z. length (contents_of z)) (sym (take_at line_part 0 us (omega arith))))
            (count_held (get_or kids 3 0) (value_at us 3) (suit_at 3 0 us f (omega (arith, ten))) (part 3 (omega arith)) ∙ ap (λ z. count_of (members_of z)) (sym (take_at line_part 3 us (omega arith))))
            (size_held (get_or kids 4 0) (value_at us 4) (suit_at 4 0 us f (omega (arith, ten))) (part 4 (omega arith)) ∙ ap (λ z. length (contents_of z)) (sym (take_at line_part 4 us (omega arith))))
            fault;
      }
    where
      four : (p : ℕ) {a a' b b' c c' : ℕ} → a ≡ a' → b ≡ b' → c ≡ c' → code_fault p a b c ≡ accepted → code_fault p a' b' c' ≡ accepted
      four p x y z e = rw (← x, ← y, ← z) e

  -- The sense of a node whose children have theirs.
  sensed : (n : ℕ) (kids : List ℕ) (us : Values) → look t n ≡ holds kids → MeanAll (InTables t) kids us → ProperAll us → (v : Value) → Means (InTables t) n v → Proper v
  unfolding shape_of
  sensed n kids us e m p v x =
      let h = looked_held t n kids e in
      let g = sound_sense s bytes small (InTables t) n (node_of t n) kids us m p h.many h.own (λ c. code_good n kids us m (ten c h.own h.many (mean_all_count (InTables t) us kids m)) h c) (record { held = e; is = refl }) in
      subst Proper (means_one (InTables t) (λ a n. value_of a t n) (by_tables t) n g.value v g.means x) g.proper
    where
      ten : class_of (node_of t n).letter ≡ codes → sound s (node_of t n) ≡ true → (node_of t n).count ≡ length kids → length kids ≡ count_of us → count_of us ≡ 10
      ten c o k l = sym l ∙ sym k ∙ (code-ruled s (node_of t n) (ap (ruled s (node_of t n)) (sym c) ∙ (sound-ruled s (node_of t n) o).1)).ten

  -- A node whose value is found.
  pub record Known (n : ℕ) (v : Value) (a : ℕ) : Type 0 where
    pub means : Means (InTables t) n v
    pub proper : Proper v
    pub deep : depth_of v ≤ a

  -- so much below the allowance
  abbrev Finds : (ℕ → Option Value) → ℕ → ℕ → Type 0
  Finds f less a = (m : ℕ) (w : Value) → f m ≡ some w → Means (InTables t) m w × Proper w × (depth_of w + less ≤ a)

  pub record AllKnown (kids : List ℕ) (vs : Values) (less a : ℕ) : Type 0 where
    pub means : MeanAll (InTables t) kids vs
    pub proper : ProperAll vs
    pub deep : less ≤ a → depth_all vs + less ≤ a
    pub some-deep : 0 < count_of vs → less ≤ a

  all_known : (f : ℕ → Option Value) (less a : ℕ) → Finds f less a → (kids : List ℕ) (vs : Values) → all_of f kids ≡ some vs → AllKnown kids vs less a
  unfolding all_of Means Proper depth_of count_of
  all_known f less a ih [] vs e = go vs e
    where
      go : (vs : Values) → some nil ≡ some vs → AllKnown [] vs less a
      go vs e =
          let z : nil ≡ vs = cc in
          subst (λ x. AllKnown [] x less a) z (record { means = refl; proper = tt; deep = λ h. omega arith; some-deep = λ h. absurd (omega arith) })
  all_known f less a ih (n ∷ ns) vs e = go (f n) refl (all_of f ns) refl e (λ us q. all_known f less a ih ns us q)
    where
      go : (o : Option Value) → f n ≡ o → (r : Option Values) → all_of f ns ≡ r → put o r ≡ some vs → ((us : Values) → all_of f ns ≡ some us → AllKnown ns us less a) → AllKnown (n ∷ ns) vs less a
      go none p r q e rest = none-some e
      go (some w) p none q e rest = none-some e
      go (some w) p (some us) q e rest =
          let z : more w us ≡ vs = cc in
          let x = ih n w p in
          let y = rest us q in
          subst (λ x. AllKnown (n ∷ ns) x less a) z (record { means = (n, ns, refl, x.0, y.means); proper = (x.1, y.proper); deep = λ h. omega (arith, x.2, y.deep h); some-deep = λ h. omega (arith, x.2) })

  no_kids : (n : ℕ) (kids : List ℕ) → look t n ≡ holds kids → tag (shape_of t n kids) ≤ 5 → kids ≡ []
  unfolding shape_of
  no_kids n kids e l =
      let h = looked_held t n kids e in
      empty kids (sym h.many ∙ leaf_none s (node_of t n) kids (class_of (node_of t n).letter) l (sound-ruled s (node_of t n) h.own).1)
    where
      empty : (kids : List ℕ) → length kids ≡ 0 → kids ≡ []
      empty [] q = refl
      empty (k ∷ ks) q = absurd (omega (arith, q))

  -- one node, whose children's values are f's and whose parts' values are g's
  module _ (f g : ℕ → Option Value) (a n : ℕ) (v : Value) (one : 1 ≤ a) (ff : Finds f 1 a) (gg : Finds g 2 a) (kids : List ℕ) (q : look t n ≡ holds kids) where
    leaf : (sh : Shape) → shape_of t n kids ≡ sh → tag sh ≤ 5 → (w : Value) → (InTables t n kids sh → Means (InTables t) n w) → depth_of w ≡ 1 → some w ≡ some v → Known n v a
    unfolding Means Proper
    leaf sh is l w make d e =
        let m = make (record { held = q; is = is }) in
        let z = same_some e in
        let k = no_kids n kids q (subst (λ x. tag x ≤ 5) (sym is) l) in
        subst (λ x. Known n x a) z (record { means = m; proper = sensed n kids nil q k tt w m; deep = omega (arith, d) })

    kids_are : (sh : Shape) → shape_of t n kids ≡ sh → kids_in sh kids ≡ kids
    unfolding shape_of
    kids_are sh is = ap (λ x. kids_in x kids) (sym is) ∙ classed-kids s (node_of t n) kids (class_of (node_of t n).letter)

    row : (make : Values → Value) (ks : List ℕ) (sh : List ℕ → Shape) → shape_of t n kids ≡ sh ks → ks ≡ kids → ((vs : Values) → InTables t n kids (sh kids) → MeanAll (InTables t) kids vs → Means (InTables t) n (make vs))
        → ((vs : Values) → depth_of (make vs) ≡ suc (depth_all vs)) → holding make (all_of f ks) ≡ some v → Known n v a
    row make ks sh is k means d e =
        let h = holding-some make (all_of f ks) v e in
        let ak = all_known f 1 a ff ks h.0 h.1 in
        let ms : MeanAll (InTables t) kids h.0 = subst (λ x. MeanAll (InTables t) x h.0) k ak.means in
        let m = means h.0 (record { held = q; is = is ∙ ap sh k }) ms in
        subst (λ x. Known n x a) h.2 (record { means = m; proper = sensed n kids h.0 q ms ak.proper (make h.0) m; deep = omega (arith, d h.0, ak.deep one) })

    body : (numbers : List ℕ) (line : ℕ) (ks : List ℕ) → shape_of t n kids ≡ shape.code numbers line ks → ks ≡ kids → code_of numbers (shown_line line) (all_of g (take line_part ks)) (all_of g (drop line_part ks)) ≡ some v → Known n v a
    unfolding Means Proper depth_of
    body numbers line ks is k e =
        let h = code-some numbers (shown_line line) (all_of g (take line_part ks)) (all_of g (drop line_part ks)) v e in
        let ps = h.0 in
        let ts = h.1 in
        let ap₁ = all_known g 2 a gg (take line_part ks) ps h.2 in
        let at₁ = all_known g 2 a gg (drop line_part ks) ts h.3 in
        let mp : MeanAll (InTables t) (take line_part kids) ps = subst (λ x. MeanAll (InTables t) (take line_part x) ps) k ap₁.means in
        let mt : MeanAll (InTables t) (drop line_part kids) ts = subst (λ x. MeanAll (InTables t) (drop line_part x) ts) k at₁.means in
        let all : MeanAll (InTables t) kids (join ps ts) = subst (λ x. MeanAll (InTables t) x (join ps ts)) (take-append-drop line_part kids) (mean_all_join (InTables t) ps ts (take line_part kids) (drop line_part kids) mp mt) in
        let m : Means (InTables t) n (code numbers ps (shown_line line) ts) = (kids, line, record { held = q; is = is ∙ ap (shape.code numbers line) k }, refl, mp, mt) in
        let p = sensed n kids (join ps ts) q all (proper-join ps ts ap₁.proper at₁.proper) (code numbers ps (shown_line line) ts) m in
        let two : 2 ≤ a = ap₁.some-deep (omega (arith, p.0.eight)) in
        subst (λ x. Known n x a) h.4 (record { means = m; proper = p; deep = omega (arith, ap₁.deep two, at₁.deep two) })

    by_shape : (sh : Shape) → shape_of t n kids ≡ sh → shaped f g sh ≡ some v → Known n v a
    unfolding Means depth_of
    by_shape (shape.single letter) is e = leaf (shape.single letter) is (omega arith) (single letter) (λ x. (kids, x)) refl e
    by_shape (shape.integer z) is e = leaf (shape.integer z) is (omega arith) (integer z) (λ x. (kids, x)) refl e
    by_shape (shape.float bits) is e = leaf (shape.float bits) is (omega arith) (float bits) (λ x. (kids, x)) refl e
    by_shape (shape.complex real imaginary) is e = leaf (shape.complex real imaginary) is (omega arith) (complex real imaginary) (λ x. (kids, x)) refl e
    by_shape (shape.bytes contents) is e = leaf (shape.bytes contents) is (omega arith) (byte_string contents) (λ x. (kids, x)) refl e
    by_shape (shape.text contents) is e = leaf (shape.text contents) is (omega arith) (text contents) (λ x. (kids, x)) refl e
    by_shape (shape.sequence letter ks) is e = row (sequence letter) ks (shape.sequence letter) is (kids_are (shape.sequence letter ks) is) (λ vs x m. (kids, x, m)) (λ vs. refl) e
    by_shape (shape.slice ks) is e = row slice ks shape.slice is (kids_are (shape.slice ks) is) (λ vs x m. (kids, x, m)) (λ vs. refl) e
    by_shape (shape.dict ks) is e = row dict ks shape.dict is (kids_are (shape.dict ks) is) (λ vs x m. (kids, x, m)) (λ vs. refl) e
    by_shape (shape.code numbers line ks) is e = body numbers line ks is (kids_are (shape.code numbers line ks) is) e

  one_known : (f g : ℕ → Option Value) (a n : ℕ) (v : Value) → 1 ≤ a → Finds f 1 a → Finds g 2 a → looked_as f g t n (look t n) ≡ some v → Known n v a
  one_known f g a n v one ff gg e = go (look t n) refl e
    where
      go : (o : Looked) → look t n ≡ o → looked_as f g t n o ≡ some v → Known n v a
      go (holds kids) q e = by_shape f g a n v one ff gg kids q (shape_of t n kids) refl e
      go (faulty place) q e = none-some e

  pub found_is_known : (a n : ℕ) (v : Value) → value_of a t n ≡ some v → Known n v a
  unfolding value_of
  found_is_known zero n v e = none-some e
  found_is_known (suc zero) n v e = one_known nowhere nowhere 1 n v (omega arith) (λ m w q. none-some q) (λ m w q. none-some q) e
  found_is_known (suc (suc a)) n v e =
      one_known (value_of (suc a) t) (value_of a t) (suc (suc a)) n v (omega arith) (λ m w q. let k = found_is_known (suc a) m w q in (k.means, k.proper, omega (arith, k.deep)))
      (λ m w q. let k = found_is_known a m w q in (k.means, k.proper, omega (arith, k.deep))) e

  -- Theorem C of any stores: a node that means v is written as what is written of v, where that fits ..
  pub found_is_written : (n nesting room : ℕ) (v : Value) → value_of (min nesting most_nesting) t n ≡ some v → length (written_as v) ≤ min room most_output → written t n nesting room ≡ gives (written_as v)
  found_is_written n nesting room v e h =
      let k = found_is_known (min nesting most_nesting) n v e in
      written_as_lem t n v small k.means k.proper nesting k.deep room h

  -- .. and, its codes in name order, as v's canonical bytes.
  pub found_in-order_is_written : (n nesting room : ℕ) (v : Value) → value_of (min nesting most_nesting) t n ≡ some v → InOrder v → length (canonical v) ≤ min room most_output → written t n nesting room ≡ gives (canonical v)
  found_in-order_is_written n nesting room v e o h =
      let k = found_is_known (min nesting most_nesting) n v e in
      written_is t n v small k.means k.proper nesting k.deep o room h
