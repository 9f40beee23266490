-- Names in name order are written in the order in which they stand: their three groups, one after another, are the names themselves. One
-- law for each group, the last first; and the nodes of names, grouped by the writer, hold the names' groups. Assumes nothing.
use mathlib.Core.Path.{◌≡◌, refl, sym, ap, ◌∙◌}
use Prim.Native.Nat.{ℕ, suc}
use native.Mathlib.Omega.{arith}
use mathlib.Core.Bool.{Bool, true, false, cond, not, ◌&&◌, ◌||◌}
use mathlib.Core.List.{List, [], ◌∷◌, ◌++◌}
use lib.ListN.{length}
use borrow.Author.Tests.{eq-eqb}
use Rattle.localsplus.specs.Kind.{local_bit, cell_bit, free_bit, has}
use Rattle.grammar.proofs.Tests.{both_true}
use Rattle.grammar.specs.Record.{Tables}
use Rattle.writing.specs.Names.{contents_of, same_bytes, having, named_in, apart_from, in_groups}
use Rattle.meaning.specs.Order.{is_local, is_cell, is_free, is_equal_to, frees, cells_then_frees, local_names, grouped, name_order}
use Rattle.meaning.specs.Written.{with_bit, apart, groups}

no_bool : {X : Type 0} → false ≡ true → X
no_bool e = let z : ◌≡◌ {A = ℕ} 0 1 = cc in absurd (omega arith)

not-true : (b : Bool) → not b ≡ true → b ≡ false
not-true true e = no_bool e
not-true false e = refl

-- "Free alone": no other bit is set
pub record Bits (l c f : Bool) (kind : ℕ) : Type 0 where
  pub local : has local_bit kind ≡ l
  pub cell : has cell_bit kind ≡ c
  pub free : has free_bit kind ≡ f

free_bits : (kind : ℕ) → is_free kind ≡ true → Bits false false true kind
free_bits kind e =
    let a = both_true (not (has local_bit kind) && not (has cell_bit kind)) (has free_bit kind) e in
    let b = both_true (not (has local_bit kind)) (not (has cell_bit kind)) a.0 in
    record { local = not-true (has local_bit kind) b.0; cell = not-true (has cell_bit kind) b.1; free = a.1 }

cell_bits : (kind : ℕ) → is_cell kind ≡ true → Bits false true false kind
cell_bits kind e =
    let a = both_true (not (has local_bit kind) && has cell_bit kind) (not (has free_bit kind)) e in
    let b = both_true (not (has local_bit kind)) (has cell_bit kind) a.0 in
    record { local = not-true (has local_bit kind) b.0; cell = b.1; free = not-true (has free_bit kind) a.1 }

local_bits : (kind : ℕ) → is_local kind ≡ true → Bits true (has cell_bit kind) false kind
local_bits kind e =
    let a = both_true (has local_bit kind) (not (has free_bit kind)) e in
    record { local = a.0; cell = refl; free = not-true (has free_bit kind) a.1 }

same_self : (xs : List ℕ) → same_bytes xs xs ≡ true
unfolding same_bytes
same_self [] = refl
same_self (x ∷ xs) = rw (eq-eqb x x refl) (same_self xs)

-- the last group
frees_without : (bit : ℕ) (ks : List ℕ) (ns : List (List ℕ)) → ((kind : ℕ) → is_free kind ≡ true → has bit kind ≡ false) → frees ks ≡ true → with_bit bit ks ns ≡ []
unfolding with_bit frees
frees_without bit [] ns b e = refl
frees_without bit (k ∷ ks) [] b e = refl
frees_without bit (k ∷ ks) (n ∷ ns) b e =
    let a = both_true (is_free k) (frees ks) e in
    rw (b k a.0) (frees_without bit ks ns b a.1)

frees_all : (ks : List ℕ) (ns : List (List ℕ)) → length ks ≡ length ns → frees ks ≡ true → with_bit free_bit ks ns ≡ ns
unfolding with_bit frees
frees_all [] [] l e = refl
frees_all [] (n ∷ ns) l e = absurd (omega (arith, l))
frees_all (k ∷ ks) [] l e = absurd (omega (arith, l))
frees_all (k ∷ ks) (n ∷ ns) l e =
    let a = both_true (is_free k) (frees ks) e in
    rw (free_bits k a.0).free (ap (λ z. n ∷ z) (frees_all ks ns (omega (arith, l)) a.1))

-- what is known of a group that has no Local: the Locals, and the rest
pub record NoLocals (locals : List (List ℕ)) (ks : List ℕ) (ns : List (List ℕ)) : Type 0 where
  pub none_has : with_bit local_bit ks ns ≡ []
  pub none_is : local_names ks ns ≡ []
  pub rest : apart locals (with_bit cell_bit ks ns) ++ with_bit free_bit ks ns ≡ ns

frees_none : (ks : List ℕ) (ns : List (List ℕ)) → frees ks ≡ true → local_names ks ns ≡ []
unfolding frees local_names
frees_none [] ns e = refl
frees_none (k ∷ ks) [] e = refl
frees_none (k ∷ ks) (n ∷ ns) e =
    let a = both_true (is_free k) (frees ks) e in
    rw (free_bits k a.0).local (frees_none ks ns a.1)

frees-groups : (locals : List (List ℕ)) (ks : List ℕ) (ns : List (List ℕ)) → length ks ≡ length ns → frees ks ≡ true → NoLocals locals ks ns
unfolding apart
frees-groups locals ks ns l e =
    record {
      none_has = frees_without local_bit ks ns (λ k q. (free_bits k q).local) e;
      none_is = frees_none ks ns e;
      rest = rw (frees_without cell_bit ks ns (λ k q. (free_bits k q).cell) e) (frees_all ks ns l e);
    }

-- the last two
cells-groups : (locals : List (List ℕ)) (ks : List ℕ) (ns : List (List ℕ)) → length ks ≡ length ns → cells_then_frees locals ks ns ≡ true → NoLocals locals ks ns
unfolding cells_then_frees with_bit apart local_names
cells-groups locals [] [] l e = record { none_has = refl; none_is = refl; rest = refl }
cells-groups locals [] (n ∷ ns) l e = absurd (omega (arith, l))
cells-groups locals (k ∷ ks) [] l e = absurd (omega (arith, l))
cells-groups locals (k ∷ ks) (n ∷ ns) l e = go (is_cell k) refl e (λ q. cells-groups locals ks ns (omega (arith, l)) q)
  where
    go : (b : Bool) → is_cell k ≡ b → cond b (not (is_equal_to n locals) && cells_then_frees locals ks ns) (frees (k ∷ ks)) ≡ true → (cells_then_frees locals ks ns ≡ true → NoLocals locals ks ns) → NoLocals locals (k ∷ ks) (n ∷ ns)
    go true q e more =
        let a = both_true (not (is_equal_to n locals)) (cells_then_frees locals ks ns) e in
        let b = cell_bits k q in
        let g = more a.1 in
        record {
          none_has = rw b.local g.none_has;
          none_is = rw b.local g.none_is;
          rest = rw (b.cell, b.free, not-true (is_equal_to n locals) a.0) (ap (λ x. n ∷ x) g.rest);
        }
    go false q e more = frees-groups locals (k ∷ ks) (n ∷ ns) l e

-- all three: the Locals are all named among them
abbrev AllNamed : List (List ℕ) → List (List ℕ) → Type 0
AllNamed locals [] = Unit
AllNamed locals (n ∷ ns) = (is_equal_to n locals ≡ true) × AllNamed locals ns

all_groups : (locals : List (List ℕ)) (ks : List ℕ) (ns : List (List ℕ)) → length ks ≡ length ns → AllNamed locals (with_bit local_bit ks ns) → grouped locals ks ns ≡ true
    → with_bit local_bit ks ns ++ apart locals (with_bit cell_bit ks ns) ++ with_bit free_bit ks ns ≡ ns
unfolding grouped with_bit apart
all_groups locals [] [] l an e = refl
all_groups locals [] (n ∷ ns) l an e = absurd (omega (arith, l))
all_groups locals (k ∷ ks) [] l an e = absurd (omega (arith, l))
all_groups locals (k ∷ ks) (n ∷ ns) l an e = go (is_local k) refl e an (λ q an. all_groups locals ks ns (omega (arith, l)) an q)
  where
    go : (b : Bool) → is_local k ≡ b → cond b (grouped locals ks ns) (cells_then_frees locals (k ∷ ks) (n ∷ ns)) ≡ true → AllNamed locals (with_bit local_bit (k ∷ ks) (n ∷ ns))
        → (grouped locals ks ns ≡ true → AllNamed locals (with_bit local_bit ks ns) → with_bit local_bit ks ns ++ apart locals (with_bit cell_bit ks ns) ++ with_bit free_bit ks ns ≡ ns)
        → with_bit local_bit (k ∷ ks) (n ∷ ns) ++ apart locals (with_bit cell_bit (k ∷ ks) (n ∷ ns)) ++ with_bit free_bit (k ∷ ks) (n ∷ ns) ≡ n ∷ ns
    go true q e an more =
        let b = local_bits k q in
        let an' : AllNamed locals (n ∷ with_bit local_bit ks ns) = rw b.local at an in
        rw (b.local, b.free) (cells (has cell_bit k) an'.0 (ap (λ x. n ∷ x) (more e an'.1)))
      where
        cells : (c : Bool) → is_equal_to n locals ≡ true → n ∷ (with_bit local_bit ks ns ++ apart locals (with_bit cell_bit ks ns) ++ with_bit free_bit ks ns) ≡ n ∷ ns
            → n ∷ (with_bit local_bit ks ns ++ apart locals (cond c (n ∷ with_bit cell_bit ks ns) (with_bit cell_bit ks ns)) ++ with_bit free_bit ks ns) ≡ n ∷ ns
        cells true z r = rw z r
        cells false z r = r
    go false q e an more =
        let g = cells-groups locals (k ∷ ks) (n ∷ ns) l e in
        ap (λ z. z ++ apart locals (with_bit cell_bit (k ∷ ks) (n ∷ ns)) ++ with_bit free_bit (k ∷ ks) (n ∷ ns)) g.none_has ∙ g.rest

-- the names with the Local bit are the Local names
locals_are : (locals : List (List ℕ)) (ks : List ℕ) (ns : List (List ℕ)) → length ks ≡ length ns → grouped locals ks ns ≡ true → with_bit local_bit ks ns ≡ local_names ks ns
unfolding grouped with_bit local_names
locals_are locals [] ns l e = refl
locals_are locals (k ∷ ks) [] l e = refl
locals_are locals (k ∷ ks) (n ∷ ns) l e = go (is_local k) refl e (λ q. locals_are locals ks ns (omega (arith, l)) q)
  where
    go : (b : Bool) → is_local k ≡ b → cond b (grouped locals ks ns) (cells_then_frees locals (k ∷ ks) (n ∷ ns)) ≡ true → (grouped locals ks ns ≡ true → with_bit local_bit ks ns ≡ local_names ks ns)
        → with_bit local_bit (k ∷ ks) (n ∷ ns) ≡ local_names (k ∷ ks) (n ∷ ns)
    go true q e more =
        let b = local_bits k q in
        rw (b.local, b.free) (ap (λ z. n ∷ z) (more e))
    go false q e more = let g = cells-groups locals (k ∷ ks) (n ∷ ns) l e in g.none_has ∙ sym g.none_is

also_named : (x : List ℕ) (ls ns : List (List ℕ)) → AllNamed ls ns → AllNamed (x ∷ ls) ns
also_named x ls [] h = tt
also_named x ls (n ∷ ns) h = (go (same_bytes n x) h.0, also_named x ls ns h.1)
  where
    go : (b : Bool) → is_equal_to n ls ≡ true → b || is_equal_to n ls ≡ true
    go true e = refl
    go false e = e

self_named : (ls : List (List ℕ)) → AllNamed ls ls
self_named [] = tt
self_named (n ∷ ns) = (rw (same_self n) refl, also_named n ns ns (self_named ns))

-- names in name order are their three groups
pub in_order-in_groups : (ks : List ℕ) (ns : List (List ℕ)) → length ks ≡ length ns → name_order ks ns ≡ true → groups ks ns ≡ ns
unfolding groups name_order
in_order-in_groups ks ns l e =
    let z = locals_are (local_names ks ns) ks ns l e in
    all_groups (with_bit local_bit ks ns) ks ns l (self_named (with_bit local_bit ks ns)) (rw z e)

-- The nodes of names.
module _ (t : Tables) where
  abbrev pub Hold : List ℕ → List (List ℕ) → Type 0
  Hold [] [] = Unit
  Hold [] (name ∷ names) = ⊥
  Hold (n ∷ ns) [] = ⊥
  Hold (n ∷ ns) (name ∷ names) = (contents_of t n ≡ name) × Hold ns names

  named_equal : (name : List ℕ) (ns : List ℕ) (names : List (List ℕ)) → Hold ns names → named_in t name ns ≡ is_equal_to name names
  unfolding named_in
  named_equal name [] [] h = refl
  named_equal name [] (x ∷ xs) h = absurd h
  named_equal name (n ∷ ns) [] h = absurd h
  named_equal name (n ∷ ns) (x ∷ xs) h = rw (h.0, named_equal name ns xs h.1) refl

  having_hold : (bit : ℕ) (ks ns : List ℕ) (names : List (List ℕ)) → Hold ns names → Hold (having bit ks ns) (with_bit bit ks names)
  unfolding having with_bit
  having_hold bit [] ns names h = tt
  having_hold bit (k ∷ ks) [] [] h = tt
  having_hold bit (k ∷ ks) [] (x ∷ xs) h = absurd h
  having_hold bit (k ∷ ks) (n ∷ ns) [] h = absurd h
  having_hold bit (k ∷ ks) (n ∷ ns) (x ∷ xs) h = go (has bit k) (having_hold bit ks ns xs h.1)
    where
      go : (b : Bool) → Hold (having bit ks ns) (with_bit bit ks xs) → Hold (cond b (n ∷ having bit ks ns) (having bit ks ns)) (cond b (x ∷ with_bit bit ks xs) (with_bit bit ks xs))
      go true r = (h.0, r)
      go false r = r

  apart_hold : (ls : List ℕ) (locals : List (List ℕ)) → Hold ls locals → (ns : List ℕ) (names : List (List ℕ)) → Hold ns names → Hold (apart_from t ls ns) (apart locals names)
  unfolding apart_from apart
  apart_hold ls locals hl [] [] h = tt
  apart_hold ls locals hl [] (x ∷ xs) h = absurd h
  apart_hold ls locals hl (n ∷ ns) [] h = absurd h
  apart_hold ls locals hl (n ∷ ns) (x ∷ xs) h =
      let e : named_in t (contents_of t n) ls ≡ is_equal_to x locals = ap (λ z. named_in t z ls) h.0 ∙ named_equal x ls locals hl in
      rw e (go (is_equal_to x locals) (apart_hold ls locals hl ns xs h.1))
    where
      go : (b : Bool) → Hold (apart_from t ls ns) (apart locals xs) → Hold (cond b (apart_from t ls ns) (n ∷ apart_from t ls ns)) (cond b (apart locals xs) (x ∷ apart locals xs))
      go true r = r
      go false r = (h.0, r)

  hold_append : (ns : List ℕ) (names : List (List ℕ)) (ms : List ℕ) (more : List (List ℕ)) → Hold ns names → Hold ms more → Hold (ns ++ ms) (names ++ more)
  hold_append [] [] ms more h k = k
  hold_append [] (x ∷ xs) ms more h k = absurd h
  hold_append (n ∷ ns) [] ms more h k = absurd h
  hold_append (n ∷ ns) (x ∷ xs) ms more h k = (h.0, hold_append ns xs ms more h.1 k)

  pub groups_hold : (ks ns : List ℕ) (names : List (List ℕ)) → Hold ns names → Hold (in_groups t ks ns) (groups ks names)
  unfolding in_groups groups
  groups_hold ks ns names h =
      let l = having_hold local_bit ks ns names h in
      hold_append (having local_bit ks ns ++ apart_from t (having local_bit ks ns) (having cell_bit ks ns)) (with_bit local_bit ks names ++ apart (with_bit local_bit ks names) (with_bit cell_bit ks names))
      (having free_bit ks ns) (with_bit free_bit ks names)
      (hold_append (having local_bit ks ns) (with_bit local_bit ks names) (apart_from t (having local_bit ks ns) (having cell_bit ks ns)) (apart (with_bit local_bit ks names) (with_bit cell_bit ks names)) l
      (apart_hold (having local_bit ks ns) (with_bit local_bit ks names) l (having cell_bit ks ns) (with_bit cell_bit ks names) (having_hold cell_bit ks ns names h)))
      (having_hold free_bit ks ns names h)

  pub hold_length : (ns : List ℕ) (names : List (List ℕ)) → Hold ns names → length ns ≡ length names
  hold_length [] [] h = refl
  hold_length [] (x ∷ xs) h = absurd h
  hold_length (n ∷ ns) [] h = absurd h
  hold_length (n ∷ ns) (x ∷ xs) h = ap suc (hold_length ns xs h.1)
