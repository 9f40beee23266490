-- Stores whose kept nodes were moved: a node's record is the same but for its first entry, and its chain gives its children by their new
-- numbers. Then the record test, and with it the value, is the same. Assumes nothing.
use mathlib.Core.Path.{◌≡◌, refl, sym, ap, ap₂, subst, ◌∙◌}
use Prim.Native.Nat.{ℕ, zero, suc, ◌+◌, ◌<◌}
use native.Mathlib.Omega.{arith}
use mathlib.Core.Bool.{Bool, true, false, cond, ◌&&◌}
use mathlib.Core.Option.{Option, none, some}
use mathlib.Core.List.{List, [], ◌∷◌, map}
use lib.ListN.{length, get_or}
use lib.Dec.{ltb, leb, eqb}
use borrow.Author.Tests.{lt-ltb, eqb-true}
use Rattle.refusals.specs.Numbers.{accepted}
use Rattle.grammar.specs.State.{Node}
use Rattle.grammar.specs.Reading.{Answer, gives, stops}
use Rattle.grammar.specs.Letters as letter
use Rattle.grammar.specs.Letters.{Sort, Class, class_of, is_bytes, is_tuple, is_string}
use Rattle.grammar.specs.Fields.{Fields, fields, sum_at, code_fault, code_numbers}
use Rattle.grammar.specs.Steps.{Rule, whatever, as_bytes, as_tuple, as_names, as_string, rules, code_parts, code_part, locals_part, kinds_part}
use Rattle.grammar.specs.Record.{reads_as, containing, ruled, bad_string, suited, names, unless, or_else, bad_part, bad_end, judged, looked_as, Tables, Looked, holds, faulty, look, looked_of, whole, sound_at, sound, nodes_in, chain, node_of}

-- a node without its first entry and its input, at which no test looks
abbrev pub bare : Node → Node
bare n = record { letter = n.letter; place = n.place; size = n.size; first = 0; count = n.count; end = n.end; input = 0 }

-- the children that a chain gives, by new numbers
abbrev pub renumbered : (ℕ → ℕ) → Option (List ℕ) → Option (List ℕ)
renumbered place none = none
renumbered place (some cs) = some (map place cs)

abbrev pub AllKept : (ℕ → Type 0) → List ℕ → Type 0
AllKept Kept [] = Unit
AllKept Kept (c ∷ cs) = Kept c × AllKept Kept cs

pub record Carried (t t' : Tables) (Kept : ℕ → Type 0) (place : ℕ → ℕ) : Type 0 where
  pub input : t'.input ≡ t.input
  pub from : (n : ℕ) → Kept n → n < nodes_in t.nodes t.used_nodes
  pub to : (n : ℕ) → Kept n → place n < nodes_in t'.nodes t'.used_nodes
  pub node : (n : ℕ) → Kept n → bare (node_of t' (place n)) ≡ bare (node_of t n)
  pub kids : (n : ℕ) → Kept n → List ℕ
  pub chained : (n : ℕ) (k : Kept n) → chain t (node_of t n).count (node_of t n).first ≡ some (kids n k)
  pub closed : (n : ℕ) (k : Kept n) → AllKept Kept (kids n k)
  pub counted : (n : ℕ) (k : Kept n) → length (kids n k) ≡ (node_of t n).count
  pub carried : (n : ℕ) (k : Kept n) → chain t' (node_of t' (place n)).count (node_of t' (place n)).first ≡ some (map place (kids n k))

reads_as_bare : (a : Answer Fields) (n : Node) → reads_as a n ≡ reads_as a (bare n)
reads_as_bare (gives f) n = refl
reads_as_bare (stops number place) n = refl

containing_bare : (s : List ℕ) (n : Node) (sort : Sort) → containing s n sort ≡ containing s (bare n) sort
containing_bare s n letter.bytes = refl
containing_bare s n letter.text = refl
containing_bare s n letter.short = refl

ruled_bare : (s : List ℕ) (n : Node) (c : Class) → ruled s n c ≡ ruled s (bare n) c
ruled_bare s n letter.refers = refl
ruled_bare s n (letter.refuses number) = refl
ruled_bare s n (letter.keeps form) = reads_as_bare (fields s form n.place) n
ruled_bare s n (letter.contains sort) = ap (λ b. eqb n.count 0 && b) (containing_bare s n sort)
ruled_bare s n letter.codes = refl

sound_bare : (s : List ℕ) (n : Node) → sound s n ≡ sound s (bare n)
unfolding sound
sound_bare s n = ap (λ b. leb (n.place + n.size) (length s) && b) (ruled_bare s n (class_of n.letter))

faulted : Option ℕ → Bool
faulted none = false
faulted (some v) = true

choose : (b c : Bool) (x y : Option ℕ) (u v : ℕ) → b ≡ c → faulted x ≡ faulted y → faulted (cond b x (some u)) ≡ faulted (cond c y (some v))
unfolding faulted
choose b true x y u v e f = ap (λ d. faulted (cond d x (some u))) e ∙ f
choose b false x y u v e f = ap (λ d. faulted (cond d x (some u))) e

unless_same : (b c : Bool) (u v : ℕ) → b ≡ c → faulted (unless b u) ≡ faulted (unless c v)
unfolding faulted
unless_same b true u v e = ap (λ d. faulted (unless d u)) e
unless_same b false u v e = ap (λ d. faulted (unless d u)) e

never : {A : Type 0} → false ≡ true → A
never h = absurd (let z : ◌≡◌ {A = ℕ} 0 1 = cc in omega arith)

or_else_same : (a a' b b' : Option ℕ) → faulted a ≡ faulted a' → faulted b ≡ faulted b' → faulted (or_else a b) ≡ faulted (or_else a' b')
unfolding faulted
or_else_same none none b b' e f = f
or_else_same none (some v) b b' e f = never e
or_else_same (some v) none b b' e f = never (sym e)
or_else_same (some v) (some u) b b' e f = refl

-- The record tests agree: both hold, with the children renumbered, or both fail.
abbrev pub Alike : (ℕ → ℕ) → Looked → Looked → Type 0
Alike place (holds vs) (holds us) = us ≡ map place vs
Alike place (holds vs) (faulty p) = ⊥
Alike place (faulty p) (holds us) = ⊥
Alike place (faulty p) (faulty q) = Unit

judged-alike : (place : ℕ → ℕ) (n m : ℕ) (vs : List ℕ) (o o' : Option ℕ) → faulted o' ≡ faulted o → Alike place (judged n vs o) (judged m (map place vs) o')
unfolding faulted
judged-alike place n m vs none none e = refl
judged-alike place n m vs none (some u) e = never (sym e)
judged-alike place n m vs (some u) none e = never e
judged-alike place n m vs (some u) (some v) e = tt

and_right : (a b : Bool) → (a && b) ≡ true → b ≡ true
and_right true b h = h
and_right false b h = never h

and_left : (a b : Bool) → (a && b) ≡ true → a ≡ true
and_left true b h = refl
and_left false b h = h

code-count : (s : List ℕ) (n : Node) → ruled s n letter.codes ≡ true → n.count ≡ code_parts
code-count s n h =
    eqb-true n.count code_parts
    (and_right (leb code_numbers n.size && leb (n.place + n.size + 4) (length s)) (eqb n.count code_parts)
    (and_left (leb code_numbers n.size && leb (n.place + n.size + 4) (length s) && eqb n.count code_parts) (ltb (sum_at s n.place) 4294967296) h))

absurdly : {A : Type 0} (p : ℕ) (vs : List ℕ) → faulty p ≡ holds vs → A
absurdly p vs e = absurd (let z : ◌≡◌ {A = ℕ} 0 1 = cc in omega arith)

own_judged : (n : ℕ) (ks vs : List ℕ) (o : Option ℕ) → judged n ks o ≡ holds vs → ks ≡ vs
own_judged n ks vs none e = cc
own_judged n ks vs (some u) e = absurdly u vs (let z : faulty n ≡ holds vs = e in absurdly n vs z)

own_class_lem : (t : Tables) (n : ℕ) (ks vs : List ℕ) (c : Class) → looked_as t n ks c ≡ holds vs → ks ≡ vs
own_class_lem t n ks vs letter.refers e = absurdly n vs e
own_class_lem t n ks vs (letter.refuses number) e = absurdly n vs e
own_class_lem t n ks vs (letter.keeps form) e = cc
own_class_lem t n ks vs (letter.contains _) e = cc
own_class_lem t n ks vs letter.codes e = own_judged n ks vs (or_else (bad_part t rules ks) (bad_end t n ks)) e

own_look : (t : Tables) (n : ℕ) (ks vs : List ℕ) (b : Bool) → looked_of t n (cond b (some ks) none) ≡ holds vs → ks ≡ vs
own_look t n ks vs true e = own_class_lem t n ks vs (class_of (node_of t n).letter) e
own_look t n ks vs false e = absurdly n vs e

module _ {t t' : Tables} {Kept : ℕ → Type 0} {place : ℕ → ℕ} (w : Carried t t' Kept place) where
  same_sound : (n : ℕ) → Kept n → sound_at t'.input t'.nodes t'.used_nodes (place n) ≡ sound_at t.input t.nodes t.used_nodes n
  unfolding sound_at
  same_sound n k =
      ap (λ b. b && sound t'.input (node_of t' (place n))) (lt-ltb (place n) (nodes_in t'.nodes t'.used_nodes) (w.to n k))
      ∙ sound_bare t'.input (node_of t' (place n))
      ∙ ap₂ (λ a b. sound a b) w.input (w.node n k)
      ∙ sym (sound_bare t.input (node_of t n))
      ∙ sym (ap (λ b. b && sound t.input (node_of t n)) (lt-ltb n (nodes_in t.nodes t.used_nodes) (w.from n k)))

  same_whole : (n : ℕ) → Kept n → whole t' (place n) ≡ renumbered place (whole t n)
  unfolding whole
  same_whole n k =
      ap₂ (λ b c. cond b c none) (same_sound n k) (w.carried n k)
      ∙ both (sound_at t.input t.nodes t.used_nodes n)
      ∙ sym (ap (λ c. renumbered place (cond (sound_at t.input t.nodes t.used_nodes n) c none)) (w.chained n k))
    where
      both : (b : Bool) → cond b (some (map place (w.kids n k))) none ≡ renumbered place (cond b (some (w.kids n k)) none)
      both true = refl
      both false = refl

  same_letter : (n : ℕ) → Kept n → (node_of t' (place n)).letter ≡ (node_of t n).letter
  same_letter n k = ap (λ r. r.letter) (w.node n k)

  some-string : (vs : List ℕ) → AllKept Kept vs → faulted (bad_string t' (map place vs)) ≡ faulted (bad_string t vs)
  unfolding bad_string
  some-string [] k = refl
  some-string (v ∷ vs) k =
      choose (sound_at t'.input t'.nodes t'.used_nodes (place v) && is_string (node_of t' (place v)).letter) (sound_at t.input t.nodes t.used_nodes v && is_string (node_of t v).letter)
      (bad_string t' (map place vs)) (bad_string t vs) (place v) v (ap₂ (λ a b. a && is_string b) (same_sound v k.0) (same_letter v k.0)) (some-string vs k.1)

  whole_from : (n : ℕ) (k : Kept n) → whole t n ≡ cond (sound_at t.input t.nodes t.used_nodes n) (some (w.kids n k)) none
  unfolding whole
  whole_from n k = ap (λ c. cond (sound_at t.input t.nodes t.used_nodes n) c none) (w.chained n k)

  whole_to : (n : ℕ) (k : Kept n) → whole t' (place n) ≡ cond (sound_at t.input t.nodes t.used_nodes n) (some (map place (w.kids n k))) none
  unfolding whole
  whole_to n k = ap₂ (λ b c. cond b c none) (same_sound n k) (w.carried n k)

  some_name : (v : ℕ) (k : Kept v) (b : Bool) → faulted (names t' (place v) b (map place (w.kids v k))) ≡ faulted (names t v b (w.kids v k))
  unfolding faulted
  some_name v k true = some-string (w.kids v k) (w.closed v k)
  some_name v k false = refl

  some-suited : (r : Rule) (v : ℕ) (k : Kept v) (b : Bool)
      → faulted (suited t' r (place v) (cond b (some (map place (w.kids v k))) none)) ≡ faulted (suited t r v (cond b (some (w.kids v k)) none))
  unfolding faulted
  some-suited whatever v k true = refl
  some-suited as_bytes v k true = unless_same (is_bytes (node_of t' (place v)).letter) (is_bytes (node_of t v).letter) (place v) v (ap is_bytes (same_letter v k))
  some-suited as_tuple v k true = unless_same (is_tuple (node_of t' (place v)).letter) (is_tuple (node_of t v).letter) (place v) v (ap is_tuple (same_letter v k))
  some-suited as_names v k true =
      ap (λ l. faulted (names t' (place v) (is_tuple l) (map place (w.kids v k)))) (same_letter v k) ∙ some_name v k (is_tuple (node_of t v).letter)
  some-suited as_string v k true = unless_same (is_string (node_of t' (place v)).letter) (is_string (node_of t v).letter) (place v) v (ap is_string (same_letter v k))
  some-suited whatever v k false = refl
  some-suited as_bytes v k false = refl
  some-suited as_tuple v k false = refl
  some-suited as_names v k false = refl
  some-suited as_string v k false = refl

  some-part : (rs : List Rule) (vs : List ℕ) → AllKept Kept vs → faulted (bad_part t' rs (map place vs)) ≡ faulted (bad_part t rs vs)
  unfolding bad_part
  some-part [] vs k = refl
  some-part (r ∷ rs) [] k = refl
  some-part (r ∷ rs) (v ∷ vs) k =
      or_else_same (suited t' r (place v) (whole t' (place v))) (suited t r v (whole t v)) (bad_part t' rs (map place vs)) (bad_part t rs vs)
      (ap (λ x. faulted (suited t' r (place v) x)) (whole_to v k.0) ∙ some-suited r v k.0 (sound_at t.input t.nodes t.used_nodes v)
      ∙ sym (ap (λ x. faulted (suited t r v x)) (whole_from v k.0)))
      (some-part rs vs k.1)

  part_same : (vs : List ℕ) → AllKept Kept vs → (i : ℕ) → i < length vs → bare (node_of t' (get_or (map place vs) i 0)) ≡ bare (node_of t (get_or vs i 0))
  part_same [] k i h = absurd (omega arith)
  part_same (v ∷ vs) k zero h = w.node v k.0
  part_same (v ∷ vs) k (suc i) h = part_same vs k.1 i (omega arith)

  some_end : (n : ℕ) (k : Kept n) (vs : List ℕ) → AllKept Kept vs → length vs ≡ code_parts → faulted (bad_end t' (place n) (map place vs)) ≡ faulted (bad_end t n vs)
  unfolding bad_end
  some_end n k vs a l =
      unless_same _ _ (place n) n
      (ap₂ (λ x y. eqb (code_fault x y.size (node_of t' (get_or (map place vs) locals_part 0)).count (node_of t' (get_or (map place vs) kinds_part 0)).size) accepted)
      (ap₂ (λ x y. sum_at x y.place) w.input (w.node n k)) (part_same vs a code_part (omega arith))
      ∙ ap₂ (λ x y. eqb (code_fault (sum_at t.input (node_of t n).place) (node_of t (get_or vs code_part 0)).size x.count y.size) accepted)
      (part_same vs a locals_part (omega arith)) (part_same vs a kinds_part (omega arith)))

  class_alike : (n : ℕ) (k : Kept n) (c : Class) → ruled t.input (node_of t n) c ≡ true → Alike place (looked_as t n (w.kids n k) c) (looked_as t' (place n) (map place (w.kids n k)) c)
  class_alike n k letter.refers h = tt
  class_alike n k (letter.refuses number) h = tt
  class_alike n k (letter.keeps form) h = refl
  class_alike n k (letter.contains _) h = refl
  class_alike n k letter.codes h =
      judged-alike place n (place n) (w.kids n k) (or_else (bad_part t rules (w.kids n k)) (bad_end t n (w.kids n k)))
      (or_else (bad_part t' rules (map place (w.kids n k))) (bad_end t' (place n) (map place (w.kids n k))))
      (or_else_same _ _ _ _ (some-part rules (w.kids n k) (w.closed n k))
      (some_end n k (w.kids n k) (w.closed n k) (w.counted n k ∙ code-count t.input (node_of t n) h)))

  pub same_look : (n : ℕ) → Kept n → Alike place (look t n) (look t' (place n))
  unfolding look sound_at sound
  same_look n k =
      subst (λ x. Alike place (looked_of t n x) (looked_of t' (place n) (whole t' (place n)))) (sym (whole_from n k))
      (subst (λ x. Alike place (looked_of t n (cond (sound_at t.input t.nodes t.used_nodes n) (some (w.kids n k)) none)) (looked_of t' (place n) x)) (sym (whole_to n k))
      (go (sound_at t.input t.nodes t.used_nodes n) refl))
    where
      go : (b : Bool) → sound_at t.input t.nodes t.used_nodes n ≡ b
          → Alike place (looked_of t n (cond b (some (w.kids n k)) none)) (looked_of t' (place n) (cond b (some (map place (w.kids n k))) none))
      go true e =
          subst (λ l. Alike place (looked_as t n (w.kids n k) (class_of (node_of t n).letter)) (looked_as t' (place n) (map place (w.kids n k)) (class_of l))) (sym (same_letter n k))
          (class_alike n k (class_of (node_of t n).letter) (and_right (leb ((node_of t n).place + (node_of t n).size) (length t.input)) (ruled t.input (node_of t n) (class_of (node_of t n).letter)) (and_right (ltb n (nodes_in t.nodes t.used_nodes)) (sound t.input (node_of t n)) e)))
      go false e = tt

  -- what it holds are the node's children
  pub look-kids : (n : ℕ) (k : Kept n) (vs : List ℕ) → look t n ≡ holds vs → AllKept Kept vs
  unfolding look
  look-kids n k vs e =
      subst (λ x. AllKept Kept x)
      (own_look t n (w.kids n k) vs (sound_at t.input t.nodes t.used_nodes n) (sym (ap (looked_of t n) (whole_from n k)) ∙ e)) (w.closed n k)
