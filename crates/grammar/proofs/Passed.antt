-- What a record, a chain and the whole record test told where they passed, for any stores. Assumes nothing.
use mathlib.Core.Path.{◌≡◌, refl, sym, ap, subst, ◌∙◌}
use Prim.Native.Nat.{ℕ, zero, suc, ◌+◌, ◌≤◌, ◌<◌}
use native.Mathlib.Omega.{arith}
use mathlib.Core.Bool.{Bool, true, false, cond, ◌&&◌}
use mathlib.Core.Option.{Option, none, some}
use mathlib.Core.List.{List, [], ◌∷◌}
use lib.ListN.{length, get_or}
use lib.Dec.{ltb, leb, eqb}
use borrow.Author.Tests.{ltb-true, leb-true, eqb-true}
use Rattle.grammar.specs.Letters.{Class, refers, keeps, contains, codes, refuses, class_of, is_string}
use Rattle.grammar.specs.Fields.{code_numbers, sum_at}
use Rattle.grammar.specs.State.{Node, entry_at}
use Rattle.grammar.specs.Steps.{Rule, whatever, as_bytes, as_tuple, as_names, as_string, rules, code_parts}
use Rattle.grammar.specs.Record.{ruled, sound, nodes_in, entries_in, sound_at, Tables, put, chain, whole, node_of, bad_string, unless, suited, or_else, bad_part, bad_end, holds, faulty, judged, looked_as, looked_of, look}
use Rattle.grammar.proofs.Tests.{none-some, same_some, both_true, cond-some}

-- A record.

pub sound-ruled : (s : List ℕ) (n : Node) → sound s n ≡ true → (n.place + n.size ≤ length s) × (ruled s n (class_of n.letter) ≡ true)
unfolding sound
sound-ruled s n e =
    let b = both_true (leb (n.place + n.size) (length s)) (ruled s n (class_of n.letter)) e in
    (leb-true (n.place + n.size) (length s) b.0, b.1)

pub record CodeRuled (s : List ℕ) (n : Node) : Type 0 where
  pub numbers : code_numbers ≤ n.size
  pub within : n.place + n.size + 4 ≤ length s
  pub ten : n.count ≡ code_parts
  pub summed : ltb (sum_at s n.place) 4294967296 ≡ true

pub code-ruled : (s : List ℕ) (n : Node) → ruled s n codes ≡ true → CodeRuled s n
code-ruled s n e =
    let a = leb code_numbers n.size in
    let b = leb (n.place + n.size + 4) (length s) in
    let c = eqb n.count code_parts in
    let x = both_true (a && b && c) (ltb (sum_at s n.place) 4294967296) e in
    let y = both_true (a && b) c x.0 in
    let z = both_true a b y.0 in
    record {
      numbers = leb-true code_numbers n.size z.0;
      within = leb-true (n.place + n.size + 4) (length s) z.1;
      ten = eqb-true n.count code_parts y.1;
      summed = x.1;
    }

-- The test of a part, and of parts.

pub unless_none : (b : Bool) (v : ℕ) → unless b v ≡ none → b ≡ true
unless_none true v e = refl
unless_none false v e = none-some (sym e)

pub or-none : (x y : Option ℕ) → or_else x y ≡ none → (x ≡ none) × (y ≡ none)
or-none none y e = (refl, e)
or-none (some v) y e = none-some (sym e)

module _ (t : Tables) where
  pub sound_at_lem : (n : ℕ) → sound_at t.input t.nodes t.used_nodes n ≡ true → (n < nodes_in t.nodes t.used_nodes) × (sound t.input (node_of t n) ≡ true)
  unfolding sound_at
  sound_at_lem n e =
      let b = both_true (ltb n (nodes_in t.nodes t.used_nodes)) (sound t.input (node_of t n)) e in
      (ltb-true n (nodes_in t.nodes t.used_nodes) b.0, b.1)

  pub whole-some : (n : ℕ) (kids : List ℕ) → whole t n ≡ some kids
      → (sound_at t.input t.nodes t.used_nodes n ≡ true) × (chain t (node_of t n).count (node_of t n).first ≡ some kids)
  unfolding whole
  whole-some n kids e = cond-some (sound_at t.input t.nodes t.used_nodes n) (chain t (node_of t n).count (node_of t n).first) kids e

  -- a chain is as long as was asked
  pub chain_length : (k e : ℕ) (kids : List ℕ) → chain t k e ≡ some kids → length kids ≡ k
  unfolding chain
  chain_length zero e kids q = ap length (sym (same_some q))
  chain_length (suc k) e kids q =
      let a = cond-some (ltb e (entries_in t.entries t.used_entries)) _ kids q in
      go (chain t k (entry_at t.entries e).next) refl a.1 (λ ks p. chain_length k (entry_at t.entries e).next ks p)
    where
      go : (o : Option (List ℕ)) → chain t k (entry_at t.entries e).next ≡ o → put (entry_at t.entries e).child o ≡ some kids
          → ((ks : List ℕ) → chain t k (entry_at t.entries e).next ≡ some ks → length ks ≡ k) → length kids ≡ suc k
      go none p r ih = none-some r
      go (some ks) p r ih = ap length (sym (same_some r)) ∙ ap suc (ih ks p)

  -- the first of strings that are all sound, and the others
  pub first_string : (v : ℕ) (vs : List ℕ) → bad_string t (v ∷ vs) ≡ none
      → (sound_at t.input t.nodes t.used_nodes v && is_string (node_of t v).letter ≡ true) × (bad_string t vs ≡ none)
  unfolding bad_string
  first_string v vs e = go (sound_at t.input t.nodes t.used_nodes v && is_string (node_of t v).letter) e
    where
      go : (b : Bool) → cond b (bad_string t vs) (some v) ≡ none → (b ≡ true) × (bad_string t vs ≡ none)
      go true e = (refl, e)
      go false e = none-some (sym e)

  -- a part that fits any rule has a whole record
  pub fits-some : (r : Rule) (v : ℕ) (o : Option (List ℕ)) → suited t r v o ≡ none → (kids : List ℕ) × (o ≡ some kids)
  fits-some r v (some kids) e = (kids, refl)
  fits-some whatever v none e = none-some (sym e)
  fits-some as_bytes v none e = none-some (sym e)
  fits-some as_tuple v none e = none-some (sym e)
  fits-some as_names v none e = none-some (sym e)
  fits-some as_string v none e = none-some (sym e)

  pub fits-sound : (r : Rule) (v : ℕ) → suited t r v (whole t v) ≡ none → sound_at t.input t.nodes t.used_nodes v ≡ true
  fits-sound r v e = let w = fits-some r v (whole t v) e in (whole-some v w.0 w.1).0

  -- each of the parts fits its rule
  pub fits_at : (rs : List Rule) (vs : List ℕ) (i : ℕ) → bad_part t rs vs ≡ none → i < length rs → i < length vs
      → suited t (get_or rs i whatever) (get_or vs i 0) (whole t (get_or vs i 0)) ≡ none
  unfolding bad_part
  fits_at [] vs i e h l = absurd (omega arith)
  fits_at (r ∷ rs) [] i e h l = absurd (omega arith)
  fits_at (r ∷ rs) (v ∷ vs) zero e h l = (or-none (suited t r v (whole t v)) (bad_part t rs vs) e).0
  fits_at (r ∷ rs) (v ∷ vs) (suc i) e h l = fits_at rs vs i (or-none (suited t r v (whole t v)) (bad_part t rs vs) e).1 (omega arith) (omega arith)

  -- The whole test.
  pub record Held (n : ℕ) (kids : List ℕ) : Type 0 where
    pub linked : whole t n ≡ some kids
    pub own : sound t.input (node_of t n) ≡ true
    pub many : (node_of t n).count ≡ length kids
    pub good : class_of (node_of t n).letter ≡ codes → (bad_part t rules kids ≡ none) × (bad_end t n kids ≡ none)

  not_held : {X : Type 0} (place : ℕ) (kids : List ℕ) → faulty place ≡ holds kids → X
  not_held place kids e = let z : ◌≡◌ {A = ℕ} 0 1 = cc in absurd (omega arith)

  same_kids : (xs ys : List ℕ) → holds xs ≡ holds ys → xs ≡ ys
  same_kids xs ys e = cc

  judged_held : (n : ℕ) (vs kids : List ℕ) (o : Option ℕ) → judged n vs o ≡ holds kids → (vs ≡ kids) × (o ≡ none)
  judged_held n vs kids none e = (same_kids vs kids e, refl)
  judged_held n vs kids (some f) e = not_held n kids e

  class_told : (n : ℕ) (vs kids : List ℕ) (c : Class) → looked_as t n vs c ≡ holds kids → (vs ≡ kids) × (c ≡ codes → (bad_part t rules vs ≡ none) × (bad_end t n vs ≡ none))
  class_told n vs kids refers e = not_held n kids e
  class_told n vs kids (refuses number) e = not_held n kids e
  class_told n vs kids (keeps form) e = (same_kids vs kids e, λ q. let z : ◌≡◌ {A = ℕ} 0 1 = cc in absurd (omega arith))
  class_told n vs kids (contains sort) e = (same_kids vs kids e, λ q. let z : ◌≡◌ {A = ℕ} 0 1 = cc in absurd (omega arith))
  class_told n vs kids codes e =
      let j = judged_held n vs kids (or_else (bad_part t rules vs) (bad_end t n vs)) e in
      (j.0, λ q. or-none (bad_part t rules vs) (bad_end t n vs) j.1)

  pub looked_held : (n : ℕ) (kids : List ℕ) → look t n ≡ holds kids → Held n kids
  unfolding look
  looked_held n kids e = go (whole t n) refl e
    where
      go : (o : Option (List ℕ)) → whole t n ≡ o → looked_of t n o ≡ holds kids → Held n kids
      go none q e = not_held n kids e
      go (some vs) q e =
          let c = class_told n vs kids (class_of (node_of t n).letter) e in
          let w = whole-some n vs q in
          record {
            linked = q ∙ ap some c.0;
            own = (sound_at_lem n w.0).1;
            many = sym (chain_length (node_of t n).count (node_of t n).first kids (w.1 ∙ ap some c.0));
            good = λ p. subst (λ x. (bad_part t rules x ≡ none) × (bad_end t n x ≡ none)) c.0 (c.1 p);
          }
