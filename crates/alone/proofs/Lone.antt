-- 02, K7: the span of a node, read alone, "gives the same value". Each node of the span means what it means in the whole: its shape is read from
-- the same bytes and its children are the same, their numbers raised. Assumes bytes, 16 MiB of them at most, and an accepted input.
use mathlib.Core.Path.{◌≡◌, refl, sym, ap, ◌∙◌}
use Prim.Native.Nat.{ℕ, zero, suc, ◌+◌, ◌*◌, ◌≤◌, ◌<◌}
use native.Mathlib.Omega.{arith}
use mathlib.Core.Bool.{Bool, true, false, cond, ◌&&◌}
use mathlib.Core.List.{List, [], ◌∷◌, map}
use lib.ListN.{length, get_or, take, drop, length-map, length-drop}
use lib.Seq.{get_or-drop, get_or-take, ext_get_or, length-take-le}
use lib.Dec.{leb, eqb}
use borrow.Author.Tests.{leb-true, eqb-true}
use Rattle.refusals.specs.Limits.{most_bytes, nothing}
use Rattle.grammar.specs.Reading.{Answer, gives, stops}
use Rattle.grammar.specs.Room.{Rooms, run}
use Rattle.grammar.specs.Letters as letter
use Rattle.grammar.specs.Letters.{Form, Sort, Class, refers, keeps, contains, codes, refuses, class_of, among}
use Rattle.grammar.specs.Fields.{Fields, le16, le32, le64, contents, digit_count, last_digit, pylong, fields}
use Rattle.grammar.specs.State.{Node, Entry, State, blank, unlinked}
use Rattle.grammar.specs.Steps.{line_part}
use Rattle.grammar.specs.Answer.{plain}
use Rattle.grammar.specs.Record.{reads_as, ruled, sound}
use Rattle.grammar.specs.Leaf.{magnitude}
use Rattle.grammar.proofs.Tests.{both_true, never}
use Rattle.grammar.specs.Input.{Bytes}
use Rattle.grammar.proofs.Bounded.{accepted-within}
use Rattle.grammar.proofs.Links.{Linked, More, next_of}
use Rattle.shifts.specs.Shift.{Shift, raised_link, raised_number, raised_node, raised_entry}
use Rattle.shifts.proofs.Raising.{link_raised}
use Rattle.shifts.specs.Lower.{alone_of}
use Rattle.alone.proofs.Leading.{fields_end, fields_size}
use Rattle.alone.proofs.Spans.{SpanRead, bit-small, inner_clears, raised_is, own_bytes, line-bytes}
use Rattle.refusals.specs.Numbers.{invalid_bytecode}
use Rattle.writing.specs.Canonical.{of_bits}
use Rattle.writing.specs.Shape as shape
use Rattle.writing.specs.Shape.{Shape, eight, field, formed, sorted, classed}
use Rattle.meaning.specs.Value.{Value, Values, nil, more, single, integer, float, complex, bytes, text, sequence, slice, dict, code}
use Rattle.meaning.proofs.Means.{Sees, Means, MeanAll}
use Rattle.meaning.proofs.Standing.{InState}
use Rattle.meaning.proofs.Inversion.{class_lettered}
use Rattle.meaning.proofs.Sense.{reads-cond, digits-passed}

-- the same shape over other numbers of children
abbrev pub renamed : (ℕ → ℕ) → Shape → Shape
renamed f (shape.single letter) = shape.single letter
renamed f (shape.integer z) = shape.integer z
renamed f (shape.float bits) = shape.float bits
renamed f (shape.complex real imaginary) = shape.complex real imaginary
renamed f (shape.bytes contents) = shape.bytes contents
renamed f (shape.text contents) = shape.text contents
renamed f (shape.sequence letter kids) = shape.sequence letter (map f kids)
renamed f (shape.slice kids) = shape.slice (map f kids)
renamed f (shape.dict kids) = shape.dict (map f kids)
renamed f (shape.code numbers line kids) = shape.code numbers line (map f kids)

map-take : (f : ℕ → ℕ) (n : ℕ) (xs : List ℕ) → map f (take n xs) ≡ take n (map f xs)
map-take f zero xs = refl
map-take f (suc n) [] = refl
map-take f (suc n) (x ∷ xs) = ap (λ z. f x ∷ z) (map-take f n xs)

map-drop : (f : ℕ → ℕ) (n : ℕ) (xs : List ℕ) → map f (drop n xs) ≡ drop n (map f xs)
map-drop f zero xs = refl
map-drop f (suc n) [] = refl
map-drop f (suc n) (x ∷ xs) = map-drop f n xs

abbrev pub Renames : (ℕ → ℕ) → Sees → Sees → Type 0
Renames f P P' = (n : ℕ) (kids : List ℕ) (sh : Shape) → P n kids sh → P' (f n) (map f kids) (renamed f sh)

mutual
  unfolding Means

  pub means_renamed : (f : ℕ → ℕ) (P P' : Sees) → Renames f P P' → (v : Value) (n : ℕ) → Means P n v → Means P' (f n) v
  means_renamed f P P' h (single letter) n m = (map f m.0, h n m.0 _ m.1)
  means_renamed f P P' h (integer z) n m = (map f m.0, h n m.0 _ m.1)
  means_renamed f P P' h (float bits) n m = (map f m.0, h n m.0 _ m.1)
  means_renamed f P P' h (complex real imaginary) n m = (map f m.0, h n m.0 _ m.1)
  means_renamed f P P' h (bytes contents) n m = (map f m.0, h n m.0 _ m.1)
  means_renamed f P P' h (text contents) n m = (map f m.0, h n m.0 _ m.1)
  means_renamed f P P' h (sequence letter vs) n m = (map f m.0, h n m.0 _ m.1, mean_all_renamed f P P' h vs m.0 m.2)
  means_renamed f P P' h (slice vs) n m = (map f m.0, h n m.0 _ m.1, mean_all_renamed f P P' h vs m.0 m.2)
  means_renamed f P P' h (dict vs) n m = (map f m.0, h n m.0 _ m.1, mean_all_renamed f P P' h vs m.0 m.2)
  means_renamed f P P' h (code numbers parts line tables) n m = (
    map f m.0,
    m.1,
    h n m.0 _ m.2,
    m.3,
    rw (← (map-take f line_part m.0)) (mean_all_renamed f P P' h parts (take line_part m.0) m.4),
    rw (← (map-drop f line_part m.0)) (mean_all_renamed f P P' h tables (drop line_part m.0) m.5),
  )

  pub mean_all_renamed : (f : ℕ → ℕ) (P P' : Sees) → Renames f P P' → (vs : Values) (kids : List ℕ) → MeanAll P kids vs → MeanAll P' (map f kids) vs
  mean_all_renamed f P P' h nil kids m = ap (map f) m
  mean_all_renamed f P P' h (more v vs) kids m = (f m.0, map f m.1, ap (map f) m.2, means_renamed f P P' h v m.0 m.3, mean_all_renamed f P P' h vs m.1 m.4)

-- Chains, raised.
module _ (k : Shift) (es fs : List Entry) (few : length es ≤ nothing) (fits : length k.entries + length es ≤ length fs)
    (part : (j : ℕ) → j < length es → get_or fs (length k.entries + j) unlinked ≡ raised_entry k (get_or es j unlinked)) where
  more_raised : (e : ℕ) (vs : List ℕ) → e < length es → More es e vs → More fs (length k.entries + e) (map (raised_number k) vs)
  more_raised e [] l m = tt
  more_raised e (w ∷ ws) l m =
      let q : next_of fs (length k.entries + e) ≡ length k.entries + next_of es e = ap (λ z. z.next) (part e l) ∙ link_raised k (next_of es e) (omega (arith, m.1)) in
      rw q (omega (arith, m.0), omega (arith, m.1), ap (λ z. z.child) (part (next_of es e) m.1) ∙ ap (raised_number k) m.2, more_raised (next_of es e) ws m.1 m.3)

  pub linked-raised : (e : ℕ) (vs : List ℕ) → Linked es e vs → Linked fs (raised_link k e) (map (raised_number k) vs)
  linked-raised e [] h = rw h refl
  linked-raised e (v ∷ vs) h =
      rw (link_raised k e (omega (arith, h.0))) (omega (arith, h.0), ap (λ z. z.child) (part e h.0) ∙ ap (raised_number k) h.1, more_raised e vs h.0 h.2)

-- Shapes, read from the same bytes.
module _ (u s : List ℕ) (at : ℕ) (nd nd' : Node) (letters : nd'.letter ≡ nd.letter) (places : nd'.place ≡ at + nd.place) (sizes : nd'.size ≡ nd.size)
    (hi : ℕ) (same : (q q' : ℕ) → q' ≡ at + q → nd.place ≤ q → q < hi → get_or u q 0 ≡ get_or s q' 0) where
  word_same : (p p' : ℕ) → p' ≡ at + p → nd.place ≤ p → p + 4 ≤ hi → le32 u p ≡ le32 s p'
  word_same p p' e l h =
      rw (
        same p p' e l (omega arith),
        same (p + 1) (p' + 1) (omega arith) (omega arith) (omega arith),
        same (p + 2) (p' + 2) (omega arith) (omega arith) (omega arith),
        same (p + 3) (p' + 3)
            (omega arith) (omega arith) (omega arith),
      ) refl

  long_same : (p p' : ℕ) → p' ≡ at + p → nd.place ≤ p → p + 8 ≤ hi → le64 u p ≡ le64 s p'
  long_same p p' e l h =
      rw (
        same p p' e l (omega arith),
        same (p + 1) (p' + 1) (omega arith) (omega arith) (omega arith),
        same (p + 2) (p' + 2) (omega arith) (omega arith) (omega arith),
        same (p + 3) (p' + 3) (omega arith) (omega arith) (omega arith),
        same (p + 4) (p' + 4) (omega arith) (omega arith) (omega arith),
        same (p + 5) (p' + 5) (omega arith) (omega arith) (omega arith),
        same (p + 6) (p' + 6) (omega arith) (omega arith) (omega arith),
        same (p + 7) (p' + 7) (omega arith) (omega arith) (omega arith),
      ) refl

  magnitude_same : (k p p' : ℕ) → p' ≡ at + p → nd.place ≤ p → p + 2 * k ≤ hi → magnitude u k p ≡ magnitude s k p'
  unfolding magnitude
  magnitude_same zero p p' e l h = refl
  magnitude_same (suc k) p p' e l h =
      rw (same p p' e l (omega arith), same (p + 1) (p' + 1) (omega arith) (omega arith) (omega arith), magnitude_same k (p + 2) (p' + 2) (omega arith) (omega arith) (omega arith)) refl

  contents_same : (n : ℕ) → nd.place + n ≤ hi → nd.place + n ≤ length u → at + nd.place + n ≤ length s → contents u nd.place n ≡ contents s (at + nd.place) n
  contents_same n h l m =
      ext_get_or 0 (contents u nd.place n) (contents s (at + nd.place) n) (size u nd.place l ∙ sym (size s (at + nd.place) m)) (λ i q. byte i (omega (arith, size u nd.place l)))
    where
      size : (w : List ℕ) (p : ℕ) → p + n ≤ length w → length (contents w p n) ≡ n
      size w p l = omega (arith, length-drop p (take (p + n) w), length-take-le (p + n) w l)

      byte : (i : ℕ) → i < n → get_or (contents u nd.place n) i 0 ≡ get_or (contents s (at + nd.place) n) i 0
      byte i q =
          get_or-drop nd.place (take (nd.place + n) u) i 0 ∙ get_or-take (nd.place + n) u (nd.place + i) 0 (omega arith) ∙ same (nd.place + i) (at + nd.place + i) (omega arith) (omega arith)
          (omega arith)
          ∙ sym (get_or-drop (at + nd.place) (take (at + nd.place + n) s) i 0 ∙ get_or-take (at + nd.place + n) s (at + nd.place + i) 0 (omega arith))

  field_same : (size : ℕ) → nd.place + nd.size ≤ hi → nd.size ≡ size → cond (eqb size 4) (eqb nd.letter 0x69) (eqb size 8 && among nd.letter (0x49 ∷ 0x67 ∷ [])) ≡ true
      → field nd.letter size u nd.place ≡ field nd.letter size s (at + nd.place)
  field_same size h e g = go (eqb size 4) refl g
    where
      go : (b : Bool) → eqb size 4 ≡ b → cond b (eqb nd.letter 0x69) (eqb size 8 && among nd.letter (0x49 ∷ 0x67 ∷ [])) ≡ true
          → cond b (shape.integer (of_bits 2147483648 (le32 u nd.place))) (eight nd.letter (le64 u nd.place))
          ≡ cond b (shape.integer (of_bits 2147483648 (le32 s (at + nd.place)))) (eight nd.letter (le64 s (at + nd.place)))
      go true q g = rw (word_same nd.place (at + nd.place) refl (omega arith) (omega (arith, eqb-true size 4 q))) refl
      go false q g =
          let z = eqb-true size 8 (both_true (eqb size 8) (among nd.letter (0x49 ∷ 0x67 ∷ [])) g).0 in
          rw (long_same nd.place (at + nd.place) refl (omega arith) (omega arith)) refl

  renamed_field : (f : ℕ → ℕ) (l size : ℕ) (w : List ℕ) (p : ℕ) → renamed f (field l size w p) ≡ field l size w p
  renamed_field f l size w p = go (eqb size 4) (eqb l 0x67)
    where
      go : (a b : Bool) → renamed f (cond a (shape.integer (of_bits 2147483648 (le32 w p))) (cond b (shape.float (le64 w p)) (shape.integer (of_bits 9223372036854775808 (le64 w p)))))
          ≡ cond a (shape.integer (of_bits 2147483648 (le32 w p))) (cond b (shape.float (le64 w p)) (shape.integer (of_bits 9223372036854775808 (le64 w p))))
      go true b = refl
      go false true = refl
      go false false = refl

  last_reads : (k p : ℕ) (r : Answer Fields) → reads_as (last_digit u k p r) nd ≡ true → reads_as r nd ≡ true
  last_reads zero p r e = e
  last_reads (suc k) p r e = go (eqb (le16 u (p + 2 * k)) 0) e
    where
      go : (b : Bool) → reads_as (cond b (stops invalid_bytecode (p + 2 * k)) r) nd ≡ true → reads_as r nd ≡ true
      go true e = never e
      go false e = e

  formed_same : (f : ℕ → ℕ) (kids : List ℕ) (form : Form) → class_of nd.letter ≡ keeps form → nd.place + nd.size ≡ hi → reads_as (fields u form nd.place) nd ≡ true
      → renamed f (formed u nd kids form) ≡ formed s nd' (map f kids) form
  unfolding fields pylong
  formed_same f kids letter.single c h e = rw letters refl
  formed_same f kids (letter.fixed size) c h e =
      let a = reads-cond (leb (nd.place + size) (length u)) _ _ _ nd e in
      let z = eqb-true nd.size size (both_true (eqb nd.size size) (eqb nd.count 0) a.1).0 in
      rw (letters, places) (renamed_field f nd.letter size u nd.place ∙ field_same size (omega arith) z (class_lettered nd.letter (keeps (letter.fixed size)) c))
  formed_same f kids letter.double c h e =
      let a = reads-cond (leb (nd.place + 8) (length u)) _ _ _ nd e in
      let b = reads-cond (leb (nd.place + 8 + 8) (length u)) _ _ _ nd a.1 in
      let z = eqb-true nd.size 16 (both_true (eqb nd.size 16) (eqb nd.count 0) b.1).0 in
      rw (places, long_same nd.place (at + nd.place) refl (omega arith) (omega arith), long_same (nd.place + 8) (at + nd.place + 8) (omega arith) (omega arith) (omega arith)) refl
  formed_same f kids letter.long c h e =
      let w = digit_count (le32 u nd.place) in
      let a = reads-cond (leb (nd.place + 4) (length u)) _ _ _ nd e in
      let d = digits-passed u w (nd.place + 4) (last_digit u w (nd.place + 4) _) nd (leb-true (nd.place + 4) (length u) a.0) a.1 in
      let z = eqb-true nd.size (4 + 2 * w) (both_true (eqb nd.size (4 + 2 * w)) (eqb nd.count 0) (last_reads w (nd.place + 4) _ d.2)).0 in
      let m = magnitude_same w (nd.place + 4) (at + nd.place + 4) (omega arith) (omega arith) (omega arith) in
      let q = word_same nd.place (at + nd.place) refl (omega arith) (omega arith) in
      rw (places, m, q) refl
  formed_same f kids letter.sequence c h e = rw letters refl
  formed_same f kids letter.few c h e = refl
  formed_same f kids letter.slice c h e = refl
  formed_same f kids letter.dict c h e = refl

  sorted_same : (f : ℕ → ℕ) (sort : Sort) → nd.place + nd.size ≡ hi → nd.place + nd.size ≤ length u → at + nd.place + nd.size ≤ length s → renamed f (sorted u nd sort) ≡ sorted s nd' sort
  sorted_same f letter.bytes h l m = rw (places, sizes, contents_same nd.size (omega arith) l m) refl
  sorted_same f letter.text h l m = rw (places, sizes, contents_same nd.size (omega arith) l m) refl
  sorted_same f letter.short h l m = rw (places, sizes, contents_same nd.size (omega arith) l m) refl

  code_same : (f : ℕ → ℕ) (kids : List ℕ) → nd.place + 20 ≡ hi → le32 u (nd.place + nd.size) ≡ le32 s (at + nd.place + nd.size)
      → renamed f (classed u nd kids codes) ≡ classed s nd' (map f kids) codes
  code_same f kids h e =
      rw (
        places,
        sizes,
        word_same nd.place (at + nd.place) refl (omega arith) (omega arith),
        word_same (nd.place + 4) (at + nd.place + 4) (omega arith) (omega arith) (omega arith),
        word_same (nd.place + 8) (at + nd.place + 8) (omega arith) (omega arith) (omega arith),
        word_same (nd.place + 12) (at + nd.place + 12) (omega arith) (omega arith) (omega arith),
        word_same (nd.place + 16) (at + nd.place + 16) (omega arith) (omega arith) (omega arith),
        e,
      ) refl

  pub classed_same : (f : ℕ → ℕ) (kids : List ℕ) (c : Class) → class_of nd.letter ≡ c → nd.place + fields_size c nd.size ≡ hi → nd.place + nd.size ≤ length u
      → at + nd.place + nd.size ≤ length s → ruled u nd c ≡ true
      → (c ≡ codes → le32 u (nd.place + nd.size) ≡ le32 s (at + nd.place + nd.size)) → renamed f (classed u nd kids c) ≡ classed s nd' (map f kids) c
  classed_same f kids refers e h l m r line = never r
  classed_same f kids (refuses number) e h l m r line = never r
  classed_same f kids (keeps form) e h l m r line = formed_same f kids form e h r
  classed_same f kids (contains sort) e h l m r line = sorted_same f sort h l m
  classed_same f kids codes e h l m r line = code_same f kids h (line refl)

module _ (s : List ℕ) (R : Rooms) (small : length s ≤ most_bytes) (bs : Bytes s) (v : ℕ) (fin : State) (read : run R (plain s) ≡ gives (v, fin))
    (n b at end top : ℕ) (k : Shift) (a : SpanRead s R b at end n top k fin) (places : k.places ≡ at) (number : length k.nodes ≡ n) (long : end ≤ length s) where
  abbrev u : List ℕ
  u = alone_of s b at end fin.met

  abbrev f : ℕ → ℕ
  f = raised_number k

  u_small : length u ≤ most_bytes
  u_small = bit-small s R small bs v fin read n b at end top k a places long

  module _ (i : ℕ) (l : i < length a.state.nodes) where
    abbrev nd : Node
    nd = get_or a.state.nodes i blank

    abbrev nd' : Node
    nd' = get_or fin.nodes (f i) blank

    is_raised : nd' ≡ raised_node k nd
    is_raised =
        let z : f i ≡ n + i = omega (arith, number) in
        rw z (a.part.nodes i l)

    as_record : nd' ≡ record { letter = nd.letter; place = at + nd.place; size = nd.size; first = (raised_node k nd).first; count = nd.count; end = at + nd.end; input = nd.input }
    as_record = is_raised ∙ raised_is s R small bs v fin read n b at end top k a places long i l

    first_raised : nd'.first ≡ raised_link k nd.first
    first_raised = ap (λ z. z.first) is_raised ∙ rw (inner_clears s R small bs v fin read n b at end top k a places long i l).kept refl

    fin_within : f i < length fin.nodes
    fin_within = omega (arith, number, a.used)

    fin_sound : sound s nd' ≡ true
    fin_sound = ((accepted-within s small R (v, fin) read).finished (f i) fin_within).own bs

    own_same : (q q' : ℕ) → q' ≡ at + q → nd.place ≤ q → q < fields_end nd → get_or u q 0 ≡ get_or s q' 0
    own_same q q' e lo hi = own_bytes s R small bs v fin read n b at end top k a places long i l q lo hi ∙ ap (λ z. get_or s z 0) (sym e)

    line_same : class_of nd.letter ≡ codes → le32 u (nd.place + nd.size) ≡ le32 s (at + nd.place + nd.size)
    line_same c =
        rw (
          byte (nd.place + nd.size) (at + nd.place + nd.size) (omega arith) (omega arith) (omega arith),
          byte (nd.place + nd.size + 1) (at + nd.place + nd.size + 1) (omega arith) (omega arith) (omega arith),
          byte (nd.place + nd.size + 2) (at + nd.place + nd.size + 2) (omega arith) (omega arith) (omega arith),
          byte (nd.place + nd.size + 3) (at + nd.place + nd.size + 3) (omega arith) (omega arith) (omega arith),
        ) refl
      where
        byte : (q q' : ℕ) → q' ≡ at + q → nd.place + nd.size ≤ q → q < nd.place + nd.size + 4 → get_or u q 0 ≡ get_or s q' 0
        byte q q' e lo hi = line-bytes s R small bs v fin read n b at end top k a places long i l c q lo hi ∙ ap (λ z. get_or s z 0) (sym e)

    shape_same : (kids : List ℕ) → sound u nd ≡ true → renamed f (classed u nd kids (class_of nd.letter)) ≡ classed s nd' (map f kids) (class_of nd'.letter)
    unfolding sound fields_end
    shape_same kids e =
        let p = both_true (leb (nd.place + nd.size) (length u)) (ruled u nd (class_of nd.letter)) e in
        let q = both_true (leb (nd'.place + nd'.size) (length s)) (ruled s nd' (class_of nd'.letter)) fin_sound in
        let letters : nd'.letter ≡ nd.letter = ap (λ z. z.letter) as_record in
        let placed : nd'.place ≡ at + nd.place = ap (λ z. z.place) as_record in
        let sized : nd'.size ≡ nd.size = ap (λ z. z.size) as_record in
        classed_same u s at nd nd' letters placed sized (fields_end nd) own_same f kids (class_of nd.letter) refl refl (leb-true (nd.place + nd.size) (length u) p.0)
        (omega (arith, leb-true (nd'.place + nd'.size) (length s) q.0)) p.1 line_same
        ∙ ap (λ z. classed s nd' (map f kids) (class_of z)) (sym letters)

  stands-raised : Renames f (InState u a.state) (InState s fin)
  stands-raised i kids sh h =
      let l = h.within in
      let acc = accepted-within u u_small R (0, a.state) a.gave in
      record {
        within = fin_within i l;
        linked = rw (first_raised i l) (linked-raised k a.state.entries fin.entries (omega (arith, acc.few-entries, acc.consumed, u_small)) a.used_entries_lem a.part.entries
            (nd i l).first kids h.linked);
        counted = ap (λ z. z.count) (as_record i l) ∙ h.counted ∙ sym (length-map kids f);
        own = fin_sound i l;
        is = sym (shape_same i l kids h.own) ∙ ap (renamed f) h.is;
      }

  -- What the span means alone, the node means in the whole.
  pub same_value : (w : Value) → Means (InState u a.state) 0 w → Means (InState s fin) n w
  same_value w m =
      let z : f 0 ≡ n = omega (arith, number) in
      rw z at (means_renamed f (InState u a.state) (InState s fin) stands-raised w 0 m)
