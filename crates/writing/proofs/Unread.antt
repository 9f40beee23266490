-- 01, 'Writing it back': "Links past the count and bytes before the place are not read"; 02, K7, of the end: "not read by the writer"; nor is the input's number. Any
-- two lendings that differ only there are written alike, whatever stores they are: answer and bytes. By induction on the allowance, each
-- node by the record test that both pass alike. Assumes nothing.
use mathlib.Core.Path.{◌≡◌, refl, sym, ap, ap₂, ◌∙◌}
use Prim.Native.Nat.{ℕ, zero, suc, ◌+◌, ◌≤◌, ◌<◌, min}
use native.Mathlib.Omega.{arith}
use mathlib.Core.Bool.{Bool, true, false, cond}
use mathlib.Core.Option.{none}
use mathlib.Core.List.{List, [], ◌∷◌}
use lib.ListN.{length, get_or}
use lib.Dec.{ltb, eqb}
use borrow.Author.Tests.{ltb-true}
use Rattle.refusals.specs.Numbers.{too_deep, input_too_long}
use Rattle.refusals.specs.Limits.{most_bytes, most_nesting}
use Rattle.grammar.specs.Reading.{stops}
use Rattle.grammar.specs.Letters as letter
use Rattle.grammar.specs.Letters.{Class, refers, keeps, contains, codes, refuses, class_of, is_bytes}
use Rattle.grammar.specs.Fields.{le32, le64}
use Rattle.grammar.specs.State.{Node, node_at, entry_at, node_capacity}
use Rattle.grammar.specs.Steps as rule
use Rattle.grammar.specs.Steps.{rules, kinds_part}
use Rattle.grammar.specs.Record.{nodes_in, Tables, node_of, whole, suited, bad_part, Looked, holds, faulty, look}
use Rattle.grammar.proofs.Tests.{both_agree}
use Rattle.grammar.proofs.Passed.{unless_none, sound_at_lem, whole-some, fits-some, fits-sound, sound-ruled, Held, looked_held}
use Rattle.writing.specs.Writing.{Writing, refused, then, each, into}
use Rattle.writing.specs.Canonical.{Integer, of_bits}
use Rattle.writing.specs.Shape as shape
use Rattle.writing.specs.Shape.{shape_of, classed}
use Rattle.writing.specs.Steps.{parted, shaped, looked, is_code, no_parts, writing}
use Rattle.writing.specs.Answer.{most_output, written}
use Rattle.writing.specs.Unread.{SameBytes, SameLinks, SameRead}
use Rattle.writing.proofs.Alike.{linked, same_classed}
use Rattle.writing.proofs.Judging.{relinked, bytes-told, part-fits, same_look}
use Rattle.writing.proofs.Coding.{Told, same_parted}

-- The children of a node, each written alike.

same_each : (f f' : ℕ → Writing) → ((v : ℕ) → f v ≡ f' v) → (vs : List ℕ) → each f vs ≡ each f' vs
unfolding each
same_each f f' h [] = refl
same_each f f' h (v ∷ vs) = ap₂ then (h v) (same_each f f' h vs)

module _ (f f' : ℕ → Writing) (g g' : ℕ → List ℕ → Writing) (same_f : (v : ℕ) → f v ≡ f' v) (s : List ℕ) (n : Node) (kids : List ℕ) where
  row : each f kids ≡ each f' kids
  row = same_each f f' same_f kids

  same_shaped : (c : Class) → (c ≡ codes → (line : ℕ) → g line kids ≡ g' line kids) → shaped f g (classed s n kids c) ≡ shaped f' g' (classed s n kids c)
  same_shaped refers h = refl
  same_shaped (refuses number) h = refl
  same_shaped (keeps letter.single) h = refl
  same_shaped (keeps (letter.fixed size)) h = go (eqb size 4) (eqb n.letter 0x67) (of_bits 2147483648 (le32 s n.place)) (of_bits 9223372036854775808 (le64 s n.place)) (le64 s n.place)
    where
      go : (a b : Bool) (x y : Integer) (z : ℕ)
          → shaped f g (cond a (shape.integer x) (cond b (shape.float z) (shape.integer y))) ≡ shaped f' g' (cond a (shape.integer x) (cond b (shape.float z) (shape.integer y)))
      go true b x y z = refl
      go false true x y z = refl
      go false false x y z = refl
  same_shaped (keeps letter.double) h = refl
  same_shaped (keeps letter.long) h = refl
  same_shaped (keeps letter.sequence) h = rw row refl
  same_shaped (keeps letter.few) h = rw row refl
  same_shaped (keeps letter.slice) h = rw row refl
  same_shaped (keeps letter.dict) h = rw row refl
  same_shaped (contains letter.bytes) h = refl
  same_shaped (contains letter.text) h = refl
  same_shaped (contains letter.short) h = refl
  same_shaped codes h = rw (h refl (le32 s (n.place + n.size))) refl

module _ (t t' : Tables) (same : SameRead t t') where
  same_shape : (n : ℕ) (kids : List ℕ) → Held t n kids → shape_of t n kids ≡ shape_of t' n kids
  unfolding shape_of
  same_shape n kids h =
      let l = (sound_at_lem t n (whole-some t n kids h.linked).0).0 in
      let d = same.each-node n l in
      same_classed t.input t'.input same.length_of_lem (node_of t' n).first (node_of t' n).end (node_of t' n).input (node_of t n) kids (class_of (node_of t n).letter) refl (sound-ruled t.input (node_of t n) h.own).1 d.bytes
      ∙ ap₂ (λ m x. classed t'.input m kids (class_of x)) (sym (relinked t t' same n l)) d.letter

  same_looked : (f f' : ℕ → Writing) (g g' : ℕ → List ℕ → Writing) (n : ℕ) → ((v : ℕ) → f v ≡ f' v)
      → ((line : ℕ) (vs : List ℕ) → bad_part t rules vs ≡ none → Told t t' same (get_or vs kinds_part 0) → g line vs ≡ g' line vs)
      → looked f g t n (look t n) ≡ looked f' g' t' n (look t' n)
  unfolding shape_of rules
  same_looked f f' g g' n hf hg = go (look t n) refl ∙ ap (looked f' g' t' n) (same_look t t' same n)
    where
      go : (l : Looked) → look t n ≡ l → looked f g t n l ≡ looked f' g' t' n l
      go (faulty place) q = refl
      go (holds kids) q =
          let h = looked_held t n kids q in
          same_shaped f f' g g' hf t.input (node_of t n) kids (class_of (node_of t n).letter) (λ c line. code h c line) ∙ ap (shaped f' g') (same_shape n kids h)
        where
          code : Held t n kids → class_of (node_of t n).letter ≡ codes → (line : ℕ) → g line kids ≡ g' line kids
          code h c line =
              let good = (h.good c).0 in
              let v = get_or kids kinds_part 0 in
              let fits = part-fits t t' same n kids h.linked c good kinds_part (omega arith) in
              let w = fits-some t rule.as_bytes v (whole t v) fits in
              hg line kids good
              (bytes-told t t' same v (fits-sound t rule.as_bytes v fits) (unless_none (is_bytes (node_of t v).letter) v (ap (suited t rule.as_bytes v) (sym w.1) ∙ fits)))

  same_code : (n : ℕ) → is_code t n ≡ is_code t' n
  same_code n =
      both_agree (ltb n (nodes_in t.nodes t.used_nodes)) (ltb n (nodes_in t'.nodes t'.used_nodes)) (ap (ltb n) same.nodes_in_lem)
      (λ p. ap (λ l. eqb l 0x63) (same.each-node n (ltb-true n (nodes_in t.nodes t.used_nodes) p)).letter)

  same_writing : (a n : ℕ) → writing a t n ≡ writing a t' n
  unfolding writing
  same_writing zero n = refl
  same_writing (suc zero) n =
      ap₂ (λ b w. cond b (refused too_deep n) w) (same_code n)
      (same_looked (writing zero t) (writing zero t') (no_parts n) (no_parts n) n (λ v. refl) (λ line vs e k. refl))
  same_writing (suc (suc a)) n =
      same_looked (writing (suc a) t) (writing (suc a) t') (parted t a (writing a t)) (parted t' a (writing a t')) n (λ v. same_writing (suc a) v)
      (λ line vs e k. same_parted t t' same (writing a t) (writing a t') (λ v. same_writing a v) a line vs e k)

  -- The theorem: one answer and one content of the output.
  pub links_and_bytes_unread : (root nesting room : ℕ) → written t root nesting room ≡ written t' root nesting room
  unfolding written
  links_and_bytes_unread root nesting room =
      ap₂ (λ (k : ℕ) w. cond (ltb most_bytes k) (stops input_too_long 0) (into (min room most_output) [] w)) same.length_of_lem (same_writing (min nesting most_nesting) root)

-- The same entries are linked alike.
same_links : (t t' : Tables) → t.entries ≡ t'.entries → (count : ℕ) {e e' : ℕ} → e ≡ e' → SameLinks t t' count e e'
unfolding SameLinks
same_links t t' q zero h = tt
same_links t t' q (suc count) h =
    (h, λ l. (ap₂ (λ es x. (entry_at es x).child) q h, same_links t t' q count (ap₂ (λ es x. (entry_at es x).next) q h)))

-- The plain form for bytes: inputs of one length that are the same from the first of the stored places on.
abbrev over : List ℕ → Tables → Tables
over s t = record { input = s; nodes = t.nodes; entries = t.entries; used_nodes = t.used_nodes; used_entries = t.used_entries }

same_from : (s s' : List ℕ) (n : Node) (from : ℕ) → from ≤ n.place → ((i : ℕ) → from ≤ i → get_or s i 0 ≡ get_or s' i 0) → (c : Class) → SameBytes s s' n c
same_from s s' n from l h refers = tt
same_from s s' n from l h (refuses number) = tt
same_from s s' n from l h (keeps form) = λ i a b. h i (omega arith)
same_from s s' n from l h (contains which) = λ i a b. h i (omega arith)
same_from s s' n from l h codes = ((λ i a b. h i (omega arith)), (λ i a b. h i (omega arith)))

pub bytes-before_unread : (t : Tables) (s' : List ℕ) (from : ℕ) → length t.input ≡ length s'
    → ((n : ℕ) → n < nodes_in t.nodes t.used_nodes → from ≤ (node_of t n).place) → ((i : ℕ) → from ≤ i → get_or t.input i 0 ≡ get_or s' i 0)
    → (root nesting room : ℕ) → written t root nesting room ≡ written (over s' t) root nesting room
bytes-before_unread t s' from long first h =
    links_and_bytes_unread t (over s' t)
    (record {
      length_of_lem = long;
      nodes_in_lem = refl;
      entries_in_lem = refl;
      each-node = λ n l.
          record {
            letter = refl;
            place = refl;
            size = refl;
            count = refl;
            links = same_links t (over s' t) refl (node_of t n).count refl;
            bytes = same_from t.input s' (node_of t n) from (first n l) h (class_of (node_of t n).letter);
          };
    })

-- The plain form for ends and inputs: stores of nodes, as long as one another, that differ only in these.
abbrev recorded : List ℕ → Tables → Tables
recorded nodes t = record { input = t.input; nodes = nodes; entries = t.entries; used_nodes = t.used_nodes; used_entries = t.used_entries }

pub ends_unread : (t : Tables) (nodes : List ℕ) → length t.nodes ≡ length nodes → (ends inputs : ℕ → ℕ)
    → ((n : ℕ) → node_at nodes n ≡ linked (node_of t n).first (ends n) (inputs n) (node_of t n))
    → (root nesting room : ℕ) → written t root nesting room ≡ written (recorded nodes t) root nesting room
ends_unread t nodes long ends inputs but =
    links_and_bytes_unread t (recorded nodes t)
    (record {
      length_of_lem = refl;
      nodes_in_lem = ap (λ k. min t.used_nodes (node_capacity k)) long;
      entries_in_lem = refl;
      each-node = λ n l.
          record {
            letter = ap (λ m. m.letter) (sym (but n));
            place = ap (λ m. m.place) (sym (but n));
            size = ap (λ m. m.size) (sym (but n));
            count = ap (λ m. m.count) (sym (but n));
            links = same_links t (recorded nodes t) refl (node_of t n).count (ap (λ m. m.first) (sym (but n)));
            bytes = same_from t.input t.input (node_of t n) 0 (omega arith) (λ i h. refl) (class_of (node_of t n).letter);
          };
    })
