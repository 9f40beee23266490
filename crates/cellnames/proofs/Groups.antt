-- Local names in their groups: names compared byte by byte, and a way along names and kinds together. Assumes nothing.
use mathlib.Core.Path.{◌≡◌, refl, sym, ap, ◌∙◌}
use Prim.Native.Nat.{ℕ, suc, ◌+◌, ◌-◌, ◌≤◌, ◌<◌}
use native.Mathlib.Omega.{arith}
use mathlib.Core.Bool.{Bool, true, false, cond, not, ◌&&◌, ◌||◌}
use mathlib.Core.Option.{Option, none, some}
use mathlib.Core.List.{List, [], ◌∷◌, ◌++◌}
use lib.ListN.{length, get_or}
use lib.Seq.{slice, slice_empty, length-slice}
use lib.Dec.{eqb}
use borrow.Author.Tests.{eq-eqb, ne_eqb}
use Rattle.localsplus.specs.Kind.{local_bit, cell_bit, free_bit, has}
use Rattle.grammar.specs.Letters.{is_string}
use Rattle.grammar.specs.Fields.{contents}
use Rattle.grammar.specs.State.{node_at, entry_at}
use Rattle.grammar.specs.Record.{Tables, chain, bad_string, sound_at}
use Rattle.grammar.proofs.Tests.{never, both_true}
use Rattle.grammar.proofs.Passed.{sound-ruled, first_string}
use Rattle.stores.specs.Written.{NodeIn, EntryIn}
use Rattle.soundness.proofs.Soundness.{sound-node, in_store}
use Rattle.writing.specs.Names.{contents_of, same_bytes, having, named_in, apart_from, in_groups}
use Rattle.writing.proofs.Numbers.{part_next}
use Rattle.cellnames.specs.declared.Locals.{Locals}
use Rattle.chains.specs.Chained.{is_some, string_at}
use Rattle.cellnames.specs.Groups.{or_none, names_in, kinds_in, locals_in, in_group, group_from, group_in, Listed}
use Rattle.chains.proofs.Chains.{onto, headed, entry_in, chain_none}

-- Two parts, byte by byte.
pub record Same (s : List ℕ) (a b size i : ℕ) : Type 0 where
  pub within : i ≤ size
  pub comes : same_bytes (slice (a + i) (a + size) s) (slice (b + i) (b + size) s) ≡ same_bytes (contents s a size) (contents s b size)

pub same_none : (s : List ℕ) (a b size : ℕ) → Same s a b size 0
same_none s a b size =
    let e : a + 0 ≡ a = omega arith in
    let f : b + 0 ≡ b = omega arith in
    record {
      within = omega arith;
      comes = ap (λ k. same_bytes (slice k (a + size) s) (slice (b + 0) (b + size) s)) e ∙ ap (λ k. same_bytes (slice a (a + size) s) (slice k (b + size) s)) f;
    }

module _ (s : List ℕ) (a b size : ℕ) (ha : a + size ≤ length s) (hb : b + size ≤ length s) where
  same_step : {i : ℕ} → Same s a b size i → i < size
      → (eqb (get_or s (a + i) 0) (get_or s (b + i) 0) && same_bytes (slice (a + (i + 1)) (a + size) s) (slice (b + (i + 1)) (b + size) s))
      ≡ same_bytes (contents s a size) (contents s b size)
  unfolding same_bytes
  same_step {i} w l =
      sym (ap (λ p. same_bytes p (slice (b + i) (b + size) s)) (part_next s a i (a + size) (omega arith) ha)
      ∙ ap (same_bytes (get_or s (a + i) 0 ∷ slice (a + (i + 1)) (a + size) s)) (part_next s b i (b + size) (omega arith) hb))
      ∙ w.comes

  pub same_not : {i : ℕ} → Same s a b size i → i < size → (get_or s (a + i) 0 ≡ get_or s (b + i) 0 → ⊥) → false ≡ same_bytes (contents s a size) (contents s b size)
  same_not {i} w l n =
      sym (ap (λ t. t && same_bytes (slice (a + (i + 1)) (a + size) s) (slice (b + (i + 1)) (b + size) s)) (ne_eqb (get_or s (a + i) 0) (get_or s (b + i) 0) n))
      ∙ same_step w l

  pub same_more : {i : ℕ} → Same s a b size i → i < size → get_or s (a + i) 0 ≡ get_or s (b + i) 0 → Same s a b size (i + 1)
  same_more {i} w l n =
      record {
        within = omega arith;
        comes =
            sym (ap (λ t. t && same_bytes (slice (a + (i + 1)) (a + size) s) (slice (b + (i + 1)) (b + size) s)) (eq-eqb (get_or s (a + i) 0) (get_or s (b + i) 0) n))
            ∙ same_step w l;
      }

  pub same_all : {i : ℕ} → Same s a b size i → size ≤ i → true ≡ same_bytes (contents s a size) (contents s b size)
  unfolding same_bytes
  same_all {i} w l =
      let e : a + i ≡ a + size = omega (arith, w.within) in
      let f : b + i ≡ b + size = omega (arith, w.within) in
      sym (ap (λ k. same_bytes (slice k (a + size) s) (slice (b + i) (b + size) s)) e
      ∙ ap (λ p. same_bytes p (slice (b + i) (b + size) s)) (slice_empty (a + size) s)
      ∙ ap (λ k. same_bytes [] (slice k (b + size) s)) f
      ∙ ap (same_bytes []) (slice_empty (b + size) s))
      ∙ w.comes

same_lengths : (xs ys : List ℕ) → same_bytes xs ys ≡ true → length xs ≡ length ys
unfolding same_bytes
same_lengths [] [] e = refl
same_lengths [] (y ∷ ys) e = never e
same_lengths (x ∷ xs) [] e = never e
same_lengths (x ∷ xs) (y ∷ ys) e = ap suc (same_lengths xs ys (both_true (eqb x y) (same_bytes xs ys) e).1)

-- a sound string lies in the input
pub string-within : (s nodes : List ℕ) (used v : ℕ) → string_at s nodes used v ≡ true → (node_at nodes v).place + (node_at nodes v).size ≤ length s
string-within s nodes used v h =
    (sound-ruled s (node_at nodes v) (sound-node s nodes used v (both_true (sound_at s nodes used v) (is_string (node_at nodes v).letter) h).0)).0

-- and its record in the store
pub string-stored : (s nodes : List ℕ) (used v : ℕ) → string_at s nodes used v ≡ true → NodeIn nodes v
string-stored s nodes used v h = in_store s nodes used v (both_true (sound_at s nodes used v) (is_string (node_at nodes v).letter) h).0

module _ (s : List ℕ) (p m q n : ℕ) where
  pub sizes_differ : p + m ≤ length s → q + n ≤ length s → (m ≡ n → ⊥) → false ≡ same_bytes (contents s p m) (contents s q n)
  sizes_differ h k d = go (same_bytes (contents s p m) (contents s q n)) refl
    where
      go : (t : Bool) → same_bytes (contents s p m) (contents s q n) ≡ t → false ≡ t
      go false e = refl
      go true e =
          let l = same_lengths (contents s p m) (contents s q n) e in
          absurd (d (omega (arith, l, length-slice p (p + m) s h, length-slice q (q + n) s k)))

pub same_as_lem : (s : List ℕ) (p : ℕ) {r : Bool} {m q q' n' : ℕ} → r ≡ same_bytes (contents s p m) (contents s q m) → q ≡ q' → m ≡ n'
    → r ≡ same_bytes (contents s p m) (contents s q' n')
same_as_lem s p {r} {m} {q} {q'} {n'} e eq en =
    e ∙ ap (λ x. same_bytes (contents s p m) (contents s x m)) eq ∙ ap (λ x. same_bytes (contents s p m) (contents s q' x)) en

-- a test that was asked first
pub first_not : {b c : Bool} (x : Bool) → b ≡ c → b ≡ false → false ≡ (c && x)
first_not x e f = ap (λ y. y && x) (sym f ∙ e)

pub first_so : {b c r : Bool} (x : Bool) → b ≡ c → b ≡ true → r ≡ x → r ≡ (c && x)
first_so x e f q = q ∙ ap (λ y. y && x) (sym f ∙ e)

-- A way along kinds and names together: what P says of those that are left still comes to the goal.
pub record Along {X : Type 0} (t : Tables) (l : Locals) (P : List ℕ → List ℕ → X) (goal : X) (i e : ℕ) : Type 0 where
  pub within : i ≤ l.count
  pub rest : List ℕ
  pub chained : chain t (l.count - i) e ≡ some rest
  pub fine : bad_string t rest ≡ none
  pub comes : P (slice (l.kinds + i) (l.kinds + l.count) t.input) rest ≡ goal

pub some_of : (o : Option (List ℕ)) → is_some o ≡ true → o ≡ some (or_none o)
some_of none e = never e
some_of (some vs) e = refl

pub along_none : {X : Type 0} (t : Tables) (l : Locals) (P : List ℕ → List ℕ → X) → Listed t l → Along t l P (P (kinds_in t l) (names_in t l)) 0 l.first
along_none t l P k =
    let e : l.count - 0 ≡ l.count = omega arith in
    let f : l.kinds + 0 ≡ l.kinds = omega arith in
    record {
      within = omega arith;
      rest = names_in t l;
      chained = ap (λ c. chain t c l.first) e ∙ some_of (chain t l.count l.first) k.chained;
      fine = k.fine;
      comes = ap (λ x. P (slice x (l.kinds + l.count) t.input) (names_in t l)) f;
    }

-- the entry of the first of those that are left is in the store
pub along-entry : {X : Type 0} (t : Tables) (l : Locals) (P : List ℕ → List ℕ → X) {goal : X} {i e : ℕ} → Along t l P goal i e → i < l.count
    → EntryIn t.entries e
along-entry t l P {goal} {i} {e} w h =
    let n : l.count - i ≡ suc (l.count - (i + 1)) = omega arith in
    entry_in t (l.count - (i + 1)) e w.rest (sym (ap (λ c. chain t c e) n) ∙ w.chained)

-- the first of those that are left
pub record Next {X : Type 0} (t : Tables) (l : Locals) (P : List ℕ → List ℕ → X) (goal : X) (i e v : ℕ) : Type 0 where
  pub rest : List ℕ
  pub chained : chain t (l.count - (i + 1)) (onto t.entries e) ≡ some rest
  pub fine : bad_string t rest ≡ none
  pub text : string_at t.input t.nodes t.used_nodes v ≡ true
  pub here : l.kinds + i < length t.input
  pub comes : P (get_or t.input (l.kinds + i) 0 ∷ slice (l.kinds + (i + 1)) (l.kinds + l.count) t.input) (v ∷ rest) ≡ goal

pub along_next : {X : Type 0} (t : Tables) (l : Locals) (P : List ℕ → List ℕ → X) {goal : X} {i e : ℕ} (v : ℕ) → Listed t l → Along t l P goal i e
    → i < l.count → v ≡ (entry_at t.entries e).child → Next t l P goal i e v
along_next t l P {goal} {i} {e} v k w h is =
    let n : l.count - i ≡ suc (l.count - (i + 1)) = omega arith in
    let d = headed t (l.count - (i + 1)) e w.rest (sym (ap (λ c. chain t c e) n) ∙ w.chained) in
    let are : w.rest ≡ v ∷ d.rest = d.are ∙ ap (λ x. x ∷ d.rest) (sym is) in
    let texts = first_string t v d.rest (sym (ap (bad_string t) are) ∙ w.fine) in
    let room = k.kinds in
    record {
      rest = d.rest;
      chained = d.more;
      fine = texts.1;
      text = texts.0;
      here = omega arith;
      comes =
          ap (λ ks. P ks (v ∷ d.rest)) (sym (part_next t.input l.kinds i (l.kinds + l.count) (omega arith) room))
          ∙ ap (P (slice (l.kinds + i) (l.kinds + l.count) t.input)) (sym are) ∙ w.comes;
    }

-- and the way goes on, with another P
pub along_on : {X : Type 0} (t : Tables) (l : Locals) (P Q : List ℕ → List ℕ → X) {goal : X} {i e e' v : ℕ} (n : Next t l P goal i e v) → i < l.count
    → e' ≡ (entry_at t.entries e).next
    → Q (slice (l.kinds + (i + 1)) (l.kinds + l.count) t.input) n.rest
    ≡ P (get_or t.input (l.kinds + i) 0 ∷ slice (l.kinds + (i + 1)) (l.kinds + l.count) t.input) (v ∷ n.rest)
    → Along t l Q goal (i + 1) e'
along_on t l P Q {goal} {i} {e} {e'} {v} n h on q =
    record {
      within = omega arith;
      rest = n.rest;
      chained = ap (chain t (l.count - (i + 1))) on ∙ n.chained;
      fine = n.fine;
      comes = q ∙ n.comes;
    }

pub along_end : {X : Type 0} (t : Tables) (l : Locals) (P : List ℕ → List ℕ → X) {goal : X} {i e : ℕ} → Along t l P goal i e → l.count ≤ i → P [] [] ≡ goal
along_end t l P {goal} {i} {e} w h =
    let n : l.count - i ≡ 0 = omega arith in
    let f : l.kinds + i ≡ l.kinds + l.count = omega (arith, w.within) in
    let r = chain_none t e w.rest (sym (ap (λ c. chain t c e) n) ∙ w.chained) in
    sym (ap (λ x. P (slice x (l.kinds + l.count) t.input) w.rest) f
    ∙ ap (λ ks. P ks w.rest) (slice_empty (l.kinds + l.count) t.input)
    ∙ ap (P []) r)
    ∙ w.comes

-- Whether a name is a Local name.
module _ (t : Tables) (name : List ℕ) where
  abbrev pub asks : List ℕ → List ℕ → Bool
  asks ks ns = named_in t name (having local_bit ks ns)

  asks-next : (k : ℕ) (ks : List ℕ) (v : ℕ) (ns : List ℕ)
      → asks (k ∷ ks) (v ∷ ns) ≡ ((has local_bit k && same_bytes name (contents_of t v)) || asks ks ns)
  unfolding having named_in
  asks-next k ks v ns = go (has local_bit k) (having local_bit ks ns)
    where
      go : (b : Bool) (vs : List ℕ) → named_in t name (cond b (v ∷ vs) vs) ≡ ((b && same_bytes name (contents_of t v)) || named_in t name vs)
      go true vs = refl
      go false vs = refl

  abbrev pub answer : Locals → Bool
  answer l = asks (kinds_in t l) (names_in t l)

  module _ (l : Locals) {i e v : ℕ} {r : Bool} (n : Next t l asks (answer l) i e v)
      (tells : r ≡ (has local_bit (get_or t.input (l.kinds + i) 0) && same_bytes name (contents_of t v))) where
    abbrev later : List ℕ
    later = slice (l.kinds + (i + 1)) (l.kinds + l.count) t.input

    turned : (r || asks later n.rest) ≡ asks (get_or t.input (l.kinds + i) 0 ∷ later) (v ∷ n.rest)
    turned = ap (λ b. b || asks later n.rest) tells ∙ sym (asks-next (get_or t.input (l.kinds + i) 0) later v n.rest)

    pub asks-found : r ≡ true → true ≡ answer l
    asks-found q = sym (ap (λ b. b || asks later n.rest) q) ∙ turned ∙ n.comes

    pub asks_more : r ≡ false → {e' : ℕ} → i < l.count → e' ≡ (entry_at t.entries e).next → Along t l asks (answer l) (i + 1) e'
    asks_more q h on = along_on t l asks asks n h on (sym (ap (λ b. b || asks later n.rest) q) ∙ turned)

  pub asks_none : (l : Locals) {i e : ℕ} → Along t l asks (answer l) i e → l.count ≤ i → false ≡ answer l
  unfolding having named_in
  asks_none l w h = along_end t l asks w h

-- the name of a node whose numbers were read
pub answer_of_lem : (t : Tables) (l : Locals) (v : ℕ) {p m : ℕ} {r : Bool} → r ≡ answer t (contents t.input p m) l → p ≡ (node_at t.nodes v).place
    → m ≡ (node_at t.nodes v).size → r ≡ answer t (contents_of t v) l
answer_of_lem t l v {p} {m} {r} e ep em =
    e ∙ ap (λ x. answer t (contents t.input x m) l) ep ∙ ap (λ x. answer t (contents t.input (node_at t.nodes v).place x) l) em

-- A group has no more names than there are.
group_fewer : (t : Tables) (locals : List ℕ) (bit : ℕ) (ks ns : List ℕ) → length (group_from t locals bit ks ns) ≤ length ks
unfolding group_from
group_fewer t locals bit [] ns = omega arith
group_fewer t locals bit (k ∷ ks) [] = omega arith
group_fewer t locals bit (k ∷ ks) (v ∷ ns) = go (in_group t locals bit k v) (group_from t locals bit ks ns) (group_fewer t locals bit ks ns)
  where
    go : (b : Bool) (vs : List ℕ) → length vs ≤ length ks → length (cond b (v ∷ vs) vs) ≤ suc (length ks)
    go true vs h = omega arith
    go false vs h = omega arith

pub group_most : (t : Tables) (l : Locals) (bit : ℕ) → Listed t l → length (group_in t l bit) ≤ l.count
group_most t l bit k =
    omega (arith, group_fewer t (locals_in t l) bit (kinds_in t l) (names_in t l), length-slice l.kinds (l.kinds + l.count) t.input k.kinds)

-- Whether a name stands in a group.
module _ (t : Tables) (locals : List ℕ) (bit kind v : ℕ) {b : Bool} (tells : b ≡ has bit kind) where
  pub member_not : b ≡ false → false ≡ in_group t locals bit kind v
  member_not f = ap (λ x. x && not (eqb bit cell_bit && named_in t (contents_of t v) locals)) (sym f ∙ tells)

  pub member-plain : b ≡ true → (bit ≡ cell_bit → ⊥) → true ≡ in_group t locals bit kind v
  member-plain f n =
      ap (λ x. x && true) (sym f ∙ tells)
      ∙ ap (λ x. has bit kind && not (x && named_in t (contents_of t v) locals)) (sym (ne_eqb bit cell_bit n))

  pub member_cell : b ≡ true → bit ≡ cell_bit → {r : Bool} → r ≡ named_in t (contents_of t v) locals → not r ≡ in_group t locals bit kind v
  member_cell f e {r} q =
      ap not q ∙ ap (λ x. x && not (named_in t (contents_of t v) locals)) (sym f ∙ tells)
      ∙ ap (λ x. has bit kind && not (x && named_in t (contents_of t v) locals)) (sym (eq-eqb bit cell_bit e))

-- The three groups are those of the definition.
group_having : (t : Tables) (locals : List ℕ) (bit : ℕ) → (bit ≡ cell_bit → ⊥) → (ks ns : List ℕ) → group_from t locals bit ks ns ≡ having bit ks ns
unfolding group_from having
group_having t locals bit n [] ns = refl
group_having t locals bit n (k ∷ ks) [] = refl
group_having t locals bit n (k ∷ ks) (v ∷ ns) =
    ap (λ x. cond (has bit k && not (x && named_in t (contents_of t v) locals)) (v ∷ group_from t locals bit ks ns) (group_from t locals bit ks ns)) (ne_eqb bit cell_bit n)
    ∙ go (has bit k) (group_from t locals bit ks ns) ∙ ap (λ l. cond (has bit k) (v ∷ l) l) (group_having t locals bit n ks ns)
  where
    go : (b : Bool) (l : List ℕ) → cond (b && true) (v ∷ l) l ≡ cond b (v ∷ l) l
    go true l = refl
    go false l = refl

group_apart : (t : Tables) (locals : List ℕ) (ks ns : List ℕ) → group_from t locals cell_bit ks ns ≡ apart_from t locals (having cell_bit ks ns)
unfolding group_from having apart_from
group_apart t locals [] ns = refl
group_apart t locals (k ∷ ks) [] = refl
group_apart t locals (k ∷ ks) (v ∷ ns) =
    go (has cell_bit k) (group_from t locals cell_bit ks ns) (having cell_bit ks ns) (group_apart t locals ks ns)
  where
    go : (b : Bool) (l m : List ℕ) → l ≡ apart_from t locals m
        → cond (b && not (named_in t (contents_of t v) locals)) (v ∷ l) l ≡ apart_from t locals (cond b (v ∷ m) m)
    go true l m e = turned (named_in t (contents_of t v) locals) ∙ ap (λ x. cond (named_in t (contents_of t v) locals) x (v ∷ x)) e
      where
        turned : (b : Bool) → cond (not b) (v ∷ l) l ≡ cond b l (v ∷ l)
        turned true = refl
        turned false = refl
    go false l m e = e

pub groups_are : (t : Tables) (l : Locals) → in_groups t (kinds_in t l) (names_in t l) ≡ group_in t l local_bit ++ group_in t l cell_bit ++ group_in t l free_bit
unfolding in_groups
groups_are t l =
    let ks = kinds_in t l in
    let ns = names_in t l in
    sym (ap (λ x. x ++ group_from t (locals_in t l) cell_bit ks ns ++ group_from t (locals_in t l) free_bit ks ns) (group_having t (locals_in t l) local_bit (λ e. omega arith) ks ns)
    ∙ ap (λ x. having local_bit ks ns ++ x ++ group_from t (locals_in t l) free_bit ks ns) (group_apart t (locals_in t l) ks ns)
    ∙ ap (λ x. having local_bit ks ns ++ apart_from t (locals_in t l) (having cell_bit ks ns) ++ x) (group_having t (locals_in t l) free_bit (λ e. omega arith) ks ns))
