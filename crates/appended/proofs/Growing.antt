-- Stores in which more is used than in others, and all that is used there is the same: what has a value keeps it. One law for each step of the
-- record test, and then of the value. Assumes nothing.
use mathlib.Core.Path.{◌≡◌, refl, sym, ap, ap₂, ◌∙◌}
use Prim.Native.Nat.{ℕ, zero, suc, ◌<◌}
use native.Mathlib.Omega.{arith}
use mathlib.Core.Bool.{Bool, true, false, cond, ◌&&◌}
use mathlib.Core.Option.{Option, none, some}
use mathlib.Core.List.{List, [], ◌∷◌}
use lib.ListN.{length, get_or, take, drop}
use lib.Dec.{ltb, eqb}
use borrow.Author.Tests.{ltb-true, lt-ltb}
use Rattle.refusals.specs.Numbers.{accepted}
use Rattle.grammar.specs.State.{node_at, entry_at}
use Rattle.grammar.specs.Fields.{sum_at, code_fault}
use Rattle.grammar.specs.Letters as letter
use Rattle.grammar.specs.Letters.{Class, class_of, is_bytes, is_tuple, is_string}
use Rattle.grammar.specs.Steps.{Rule, whatever, as_bytes, as_tuple, as_names, as_string, rules, code_part, locals_part, kinds_part, line_part}
use Rattle.grammar.specs.Record.{Tables, nodes_in, entries_in, sound, sound_at, put, chain, whole, node_of, bad_string, unless, names, suited, or_else, bad_part, bad_end, judged, looked_as, looked_of, Looked, holds, faulty, look}
use Rattle.grammar.proofs.Tests.{both_true}
use Rattle.writing.specs.Canonical.{shown_line}
use Rattle.writing.specs.Shape as shape
use Rattle.writing.specs.Shape.{Shape, shape_of, classed}
use Rattle.meaning.specs.Value.{Value, Values, sequence, slice, dict}
use Rattle.meaning.specs.Meaning as meaning
use Rattle.meaning.specs.Meaning.{all_of, holding, code_of, shaped, nowhere, value_of}

pub record Grown (t t' : Tables) : Type 0 where
  pub input : t'.input ≡ t.input
  pub more_nodes : (n : ℕ) → n < nodes_in t.nodes t.used_nodes → n < nodes_in t'.nodes t'.used_nodes
  pub more_entries : (e : ℕ) → e < entries_in t.entries t.used_entries → e < entries_in t'.entries t'.used_entries
  pub same_node : (n : ℕ) → n < nodes_in t.nodes t.used_nodes → node_of t' n ≡ node_of t n
  pub same_entry : (e : ℕ) → e < entries_in t.entries t.used_entries → entry_at t'.entries e ≡ entry_at t.entries e

none-some : {A B : Type 0} (x : A) → none ≡ some x → B
none-some {A} x e = absurd (let z : ◌≡◌ {A = ℕ} 0 1 = cc in omega arith)

some-none : {A B : Type 0} (x : A) → some x ≡ none → B
some-none x e = none-some x (sym e)

-- a test with two answers that answered the first
cond-some : {A : Type 0} (b : Bool) (x : Option A) (y : A) → cond b x none ≡ some y → (b ≡ true) × (x ≡ some y)
cond-some true x y e = (refl, e)
cond-some false x y e = none-some y e

cond_none : {A : Type 0} (b : Bool) (x : Option A) (y : A) → cond b x (some y) ≡ none → (b ≡ true) × (x ≡ none)
cond_none true x y e = (refl, e)
cond_none false x y e = some-none y e

module _ {t t' : Tables} (g : Grown t t') where
  abbrev Used : ℕ → Type 0
  Used n = n < nodes_in t.nodes t.used_nodes

  sound-used : (n : ℕ) → sound_at t.input t.nodes t.used_nodes n ≡ true → Used n
  unfolding sound_at
  sound-used n e = ltb-true n (nodes_in t.nodes t.used_nodes) (both_true (ltb n (nodes_in t.nodes t.used_nodes)) (sound t.input (node_at t.nodes n)) e).0

  sound_on : (n : ℕ) → sound_at t.input t.nodes t.used_nodes n ≡ true → sound_at t'.input t'.nodes t'.used_nodes n ≡ true
  unfolding sound_at
  sound_on n e =
      let p = both_true (ltb n (nodes_in t.nodes t.used_nodes)) (sound t.input (node_at t.nodes n)) e in
      let l = ltb-true n (nodes_in t.nodes t.used_nodes) p.0 in
      ap (λ b. b && sound t'.input (node_at t'.nodes n)) (lt-ltb n (nodes_in t'.nodes t'.used_nodes) (g.more_nodes n l)) ∙ ap₂ sound g.input (g.same_node n l) ∙ p.1

  put_some : (v : ℕ) (o : Option (List ℕ)) (vs : List ℕ) → put v o ≡ some vs → (ws : List ℕ) × (o ≡ some ws)
  put_some v none vs e = none-some vs e
  put_some v (some ws) vs e = (ws, refl)

  chain_on : (count e : ℕ) (vs : List ℕ) → chain t count e ≡ some vs → chain t' count e ≡ some vs
  unfolding chain
  chain_on zero e vs q = q
  chain_on (suc more) e vs q =
      let p = cond-some (ltb e (entries_in t.entries t.used_entries)) (put (entry_at t.entries e).child (chain t more (entry_at t.entries e).next)) vs q in
      let l = ltb-true e (entries_in t.entries t.used_entries) p.0 in
      let r = put_some (entry_at t.entries e).child (chain t more (entry_at t.entries e).next) vs p.1 in
      let same = g.same_entry e l in
      ap (λ b. cond b (put (entry_at t'.entries e).child (chain t' more (entry_at t'.entries e).next)) none) (lt-ltb e (entries_in t'.entries t'.used_entries) (g.more_entries e l))
      ∙ ap (λ z. put z.child (chain t' more z.next)) same
      ∙ ap (put (entry_at t.entries e).child) (chain_on more (entry_at t.entries e).next r.0 r.1 ∙ sym r.1)
      ∙ p.1

  whole-used : (n : ℕ) (vs : List ℕ) → whole t n ≡ some vs → Used n
  unfolding whole
  whole-used n vs e = sound-used n (cond-some (sound_at t.input t.nodes t.used_nodes n) (chain t (node_at t.nodes n).count (node_at t.nodes n).first) vs e).0

  whole_on : (n : ℕ) (vs : List ℕ) → whole t n ≡ some vs → whole t' n ≡ some vs
  unfolding whole
  whole_on n vs e =
      let p = cond-some (sound_at t.input t.nodes t.used_nodes n) (chain t (node_at t.nodes n).count (node_at t.nodes n).first) vs e in
      ap (λ b. cond b (chain t' (node_at t'.nodes n).count (node_at t'.nodes n).first) none) (sound_on n p.0)
      ∙ ap (λ z. chain t' z.count z.first) (g.same_node n (sound-used n p.0))
      ∙ chain_on (node_at t.nodes n).count (node_at t.nodes n).first vs p.1

  string_on : (vs : List ℕ) → bad_string t vs ≡ none → bad_string t' vs ≡ none
  unfolding bad_string
  string_on [] e = refl
  string_on (v ∷ vs) e =
      let p = cond_none (sound_at t.input t.nodes t.used_nodes v && is_string (node_of t v).letter) (bad_string t vs) v e in
      let q = both_true (sound_at t.input t.nodes t.used_nodes v) (is_string (node_of t v).letter) p.0 in
      ap₂ (λ a b. cond (a && b) (bad_string t' vs) (some v)) (sound_on v q.0) (ap (λ z. is_string z.letter) (g.same_node v (sound-used v q.0)) ∙ q.1)
      ∙ string_on vs p.1

  names_on : (v : ℕ) (b : Bool) (vs : List ℕ) → names t v b vs ≡ none → names t' v b vs ≡ none
  names_on v true vs e = string_on vs e
  names_on v false vs e = some-none v e

  suited-some : (r : Rule) (v : ℕ) (vs : List ℕ) → node_of t' v ≡ node_of t v → suited t r v (some vs) ≡ none → suited t' r v (some vs) ≡ none
  suited-some whatever v vs q e = refl
  suited-some as_bytes v vs q e = ap (λ z. unless (is_bytes z.letter) v) q ∙ e
  suited-some as_tuple v vs q e = ap (λ z. unless (is_tuple z.letter) v) q ∙ e
  suited-some as_names v vs q e = ap (λ z. names t' v (is_tuple z.letter) vs) q ∙ names_on v (is_tuple (node_of t v).letter) vs e
  suited-some as_string v vs q e = ap (λ z. unless (is_string z.letter) v) q ∙ e

  -- a part that is as it should be
  record Part (r : Rule) (v : ℕ) : Type 0 where
    used : Used v
    suits : suited t' r v (whole t' v) ≡ none

  suited_on : (r : Rule) (v : ℕ) → suited t r v (whole t v) ≡ none → Part r v
  suited_on r v e = go (whole t v) refl e
    where
      go : (o : Option (List ℕ)) → whole t v ≡ o → suited t r v o ≡ none → Part r v
      go none q e = some-none v e
      go (some vs) q e =
          let u = whole-used v vs q in
          record { used = u; suits = ap (suited t' r v) (whole_on v vs q) ∙ suited-some r v vs (g.same_node v u) e }

  first-none : (a b : Option ℕ) → or_else a b ≡ none → (a ≡ none) × (b ≡ none)
  first-none none b e = (refl, e)
  first-none (some v) b e = some-none v e

  part_on : (rs : List Rule) (vs : List ℕ) → bad_part t rs vs ≡ none → bad_part t' rs vs ≡ none
  unfolding bad_part
  part_on [] vs e = refl
  part_on (r ∷ rs) [] e = refl
  part_on (r ∷ rs) (v ∷ vs) e =
      let p = first-none (suited t r v (whole t v)) (bad_part t rs vs) e in
      ap₂ or_else (suited_on r v p.0).suits (part_on rs vs p.1)

  -- a part that there is not reads as node 0
  parts-used : (rs : List Rule) (vs : List ℕ) → Used 0 → bad_part t rs vs ≡ none → (i : ℕ) → i < length rs → Used (get_or vs i 0)
  unfolding bad_part
  parts-used [] vs z e i l = absurd (omega arith)
  parts-used (r ∷ rs) [] z e i l = z
  parts-used (r ∷ rs) (v ∷ vs) z e zero l = (suited_on r v (first-none (suited t r v (whole t v)) (bad_part t rs vs) e).0).used
  parts-used (r ∷ rs) (v ∷ vs) z e (suc i) l = parts-used rs vs z (first-none (suited t r v (whole t v)) (bad_part t rs vs) e).1 i (omega arith)

  end_on : (n : ℕ) (vs : List ℕ) → Used n → bad_part t rules vs ≡ none → bad_end t' n vs ≡ bad_end t n vs
  unfolding bad_end rules
  end_on n vs u e =
      let part : (i : ℕ) → i < 10 → node_of t' (get_or vs i 0) ≡ node_of t (get_or vs i 0) = λ i l. g.same_node (get_or vs i 0) (parts-used rules vs (omega arith) e i l) in
      ap₂ (λ s x. unless (eqb (code_fault (sum_at s x.place) (node_of t' (get_or vs code_part 0)).size (node_of t' (get_or vs locals_part 0)).count (node_of t' (get_or vs kinds_part 0)).size) accepted) n)
      g.input (g.same_node n u)
      ∙ ap₂ (λ x y. unless (eqb (code_fault (sum_at t.input (node_of t n).place) x.size y.count (node_of t' (get_or vs kinds_part 0)).size) accepted) n)
      (part code_part (omega arith)) (part locals_part (omega arith))
      ∙ ap (λ x. unless (eqb (code_fault (sum_at t.input (node_of t n).place) (node_of t (get_or vs code_part 0)).size (node_of t (get_or vs locals_part 0)).count x.size) accepted) n)
      (part kinds_part (omega arith))

  faulty-holds : {A : Type 0} (place : ℕ) (vs : List ℕ) → faulty place ≡ holds vs → A
  faulty-holds place vs e = absurd (let z : ◌≡◌ {A = ℕ} 0 1 = cc in omega arith)

  judged_none : (n : ℕ) (ks vs : List ℕ) (o : Option ℕ) → judged n ks o ≡ holds vs → o ≡ none
  judged_none n ks vs none e = refl
  judged_none n ks vs (some v) e = faulty-holds n vs e

  class_on : (n : ℕ) (ks vs : List ℕ) (c : Class) → Used n → looked_as t n ks c ≡ holds vs → looked_as t' n ks c ≡ holds vs
  class_on n ks vs letter.refers u e = e
  class_on n ks vs (letter.refuses number) u e = e
  class_on n ks vs (letter.keeps form) u e = e
  class_on n ks vs (letter.contains _) u e = e
  class_on n ks vs letter.codes u e =
      let q = judged_none n ks vs (or_else (bad_part t rules ks) (bad_end t n ks)) e in
      let p = first-none (bad_part t rules ks) (bad_end t n ks) q in
      ap₂ (λ a b. judged n ks (or_else a b)) (part_on rules ks p.0 ∙ sym p.0) (end_on n ks u p.0) ∙ e

  record Looks (n : ℕ) (vs : List ℕ) : Type 0 where
    used : Used n
    looks : look t' n ≡ holds vs

  look_on : (n : ℕ) (vs : List ℕ) → look t n ≡ holds vs → Looks n vs
  unfolding look
  look_on n vs e = go (whole t n) refl e
    where
      go : (o : Option (List ℕ)) → whole t n ≡ o → looked_of t n o ≡ holds vs → Looks n vs
      go none q e = faulty-holds n vs e
      go (some ks) q e =
          let u = whole-used n ks q in
          record {
            used = u;
            looks = ap (looked_of t' n) (whole_on n ks q) ∙ ap (λ z. looked_as t' n ks (class_of z.letter)) (g.same_node n u) ∙ class_on n ks vs (class_of (node_of t n).letter) u e;
          }

-- Values by readers of children that find at least as much.
abbrev Finds : {A B : Type 0} → (A → Option B) → (A → Option B) → Type 0
Finds {A} {B} f f' = (n : A) (v : B) → f n ≡ some v → f' n ≡ some v

put-found : (a a' : Option Value) (b b' : Option Values) (vs : Values) → ((v : Value) → a ≡ some v → a' ≡ some v) → ((ws : Values) → b ≡ some ws → b' ≡ some ws)
    → meaning.put a b ≡ some vs → meaning.put a' b' ≡ some vs
put-found none a' b b' vs h i e = none-some vs e
put-found (some v) a' none b' vs h i e = none-some vs e
put-found (some v) a' (some ws) b' vs h i e = ap₂ meaning.put (h v refl) (i ws refl) ∙ e

all_found : {f f' : ℕ → Option Value} → Finds f f' → Finds (all_of f) (all_of f')
unfolding all_of
all_found h [] vs e = e
all_found {f} {f'} h (n ∷ ns) vs e = put-found (f n) (f' n) (all_of f ns) (all_of f' ns) vs (h n) (all_found h ns) e

holding-found : (make : Values → Value) (o o' : Option Values) (v : Value) → ((vs : Values) → o ≡ some vs → o' ≡ some vs) → holding make o ≡ some v → holding make o' ≡ some v
holding-found make none o' v h e = none-some v e
holding-found make (some vs) o' v h e = ap (holding make) (h vs refl) ∙ e

code-found : (numbers : List ℕ) (line : ℕ) (a a' b b' : Option Values) (v : Value) → ((vs : Values) → a ≡ some vs → a' ≡ some vs) → ((vs : Values) → b ≡ some vs → b' ≡ some vs)
    → code_of numbers line a b ≡ some v → code_of numbers line a' b' ≡ some v
code-found numbers line none a' b b' v h i e = none-some v e
code-found numbers line (some vs) a' none b' v h i e = none-some v e
code-found numbers line (some vs) a' (some ws) b' v h i e = ap₂ (code_of numbers line) (h vs refl) (i ws refl) ∙ e

shape_found : {f g f' g' : ℕ → Option Value} → Finds f f' → Finds g g' → Finds (shaped f g) (shaped f' g')
shape_found h i (shape.single letter) v e = e
shape_found h i (shape.integer z) v e = e
shape_found h i (shape.float bits) v e = e
shape_found h i (shape.complex real imaginary) v e = e
shape_found h i (shape.bytes contents) v e = e
shape_found h i (shape.text contents) v e = e
shape_found {f} {g} {f'} {g'} h i (shape.sequence letter kids) v e = holding-found (sequence letter) (all_of f kids) (all_of f' kids) v (all_found h kids) e
shape_found {f} {g} {f'} {g'} h i (shape.slice kids) v e = holding-found slice (all_of f kids) (all_of f' kids) v (all_found h kids) e
shape_found {f} {g} {f'} {g'} h i (shape.dict kids) v e = holding-found dict (all_of f kids) (all_of f' kids) v (all_found h kids) e
shape_found {f} {g} {f'} {g'} h i (shape.code numbers line kids) v e =
    code-found numbers (shown_line line) (all_of g (take line_part kids)) (all_of g' (take line_part kids)) (all_of g (drop line_part kids)) (all_of g' (drop line_part kids)) v
    (all_found i (take line_part kids)) (all_found i (drop line_part kids)) e

module _ {t t' : Tables} (w : Grown t t') where
  looked-found : {f g f' g' : ℕ → Option Value} → Finds f f' → Finds g g' → (n : ℕ) (v : Value) → meaning.looked_as f g t n (look t n) ≡ some v → meaning.looked_as f' g' t' n (look t' n) ≡ some v
  unfolding shape_of
  looked-found {f} {g} {f'} {g'} h i n v e = go (look t n) refl e
    where
      go : (o : Looked) → look t n ≡ o → meaning.looked_as f g t n o ≡ some v → meaning.looked_as f' g' t' n (look t' n) ≡ some v
      go (faulty place) q e = none-some v e
      go (holds ks) q e =
          let l = look_on w n ks q in
          ap (meaning.looked_as f' g' t' n) l.looks
          ∙ ap₂ (λ s x. shaped f' g' (classed s x ks (class_of x.letter))) w.input (w.same_node n l.used)
          ∙ shape_found h i (shape_of t n ks) v e

  pub value_stays : (allowance n : ℕ) (v : Value) → value_of allowance t n ≡ some v → value_of allowance t' n ≡ some v
  unfolding value_of
  value_stays zero n v e = none-some v e
  value_stays (suc zero) n v e = looked-found {f = nowhere} {g = nowhere} {f' = nowhere} {g' = nowhere} (λ m u q. q) (λ m u q. q) n v e
  value_stays (suc (suc a)) n v e =
      looked-found {f = value_of (suc a) t} {g = value_of a t} {f' = value_of (suc a) t'} {g' = value_of a t'} (λ m u q. value_stays (suc a) m u q) (λ m u q. value_stays a m u q) n v e
