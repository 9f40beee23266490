-- Chains as walks: a chain is whole exactly if so many steps can be taken, and its children are sound strings exactly if so many steps can be
-- taken over sound strings; a walk in a loop, step by step. Assumes nothing.
use mathlib.Core.Path.{◌≡◌, refl, sym, ap, subst, ◌∙◌}
use Prim.Native.Nat.{ℕ, zero, suc, ◌+◌, ◌-◌, ◌≤◌, ◌<◌, min}
use native.Mathlib.Omega.{arith}
use mathlib.Core.Bool.{Bool, true, false, cond, ◌&&◌}
use mathlib.Core.Option.{Option, none, some}
use mathlib.Core.List.{List, [], ◌∷◌}
use lib.Dec.{ltb}
use borrow.Author.Tests.{ltb-true, ltb-false, lt-ltb, le-ltb}
use Rattle.grammar.specs.State.{node_at, entry_at}
use Rattle.grammar.specs.Record.{Tables, entries_in, chain, put, bad_string, whole, sound_at}
use Rattle.grammar.proofs.Tests.{never, both_true}
use Rattle.stores.specs.Written.{EntryIn}
use Rattle.chains.specs.Chained.{links, is_some, is_none, string_at, Straight, Names}
use Rattle.chains.proofs.Round.{lives, cut-walk}

-- A walk in a loop.
module _ (fine : ℕ → Bool) (next : ℕ → ℕ) (steps first : ℕ) where
  pub record Walking (i e : ℕ) : Type 0 where
    pub within : i ≤ steps
    pub comes : lives fine next (steps - i) e ≡ lives fine next steps first

  pub walk_start : Walking 0 first
  walk_start = let z : steps - 0 ≡ steps = omega arith in record { within = omega arith; comes = ap (λ k. lives fine next k first) z }

  pub walk-stop : {i e : ℕ} → Walking i e → i < steps → fine e ≡ false → false ≡ lives fine next steps first
  unfolding lives
  walk-stop {i} {e} w l f =
      let z : steps - i ≡ suc (steps - (i + 1)) = omega arith in
      sym (ap (λ k. lives fine next k e) z ∙ ap (λ b. b && lives fine next (steps - (i + 1)) (next e)) f) ∙ w.comes

  pub walk_more : {i e e' : ℕ} → Walking i e → i < steps → fine e ≡ true → e' ≡ next e → Walking (i + 1) e'
  unfolding lives
  walk_more {i} {e} {e'} w l f n =
      let z : steps - i ≡ suc (steps - (i + 1)) = omega arith in
      record {
        within = omega arith;
        comes =
            ap (lives fine next (steps - (i + 1))) n
            ∙ sym (ap (λ k. lives fine next k e) z ∙ ap (λ b. b && lives fine next (steps - (i + 1)) (next e)) f) ∙ w.comes;
      }

  pub walk_end : {i e : ℕ} → Walking i e → steps ≤ i → true ≡ lives fine next steps first
  unfolding lives
  walk_end {i} {e} w l = let z : steps - i ≡ 0 = omega arith in sym (ap (λ k. lives fine next k e) z) ∙ w.comes

-- What a walk over entries asks of each.
abbrev pub inside : (entries : List ℕ) (used : ℕ) → ℕ → Bool
inside entries used e = ltb e (entries_in entries used)

abbrev pub onto : (entries : List ℕ) → ℕ → ℕ
onto entries e = (entry_at entries e).next

abbrev pub spelt : Tables → ℕ → Bool
spelt t e = inside t.entries t.used_entries e && string_at t.input t.nodes t.used_nodes (entry_at t.entries e).child

put_some : (v : ℕ) (o : Option (List ℕ)) → is_some (put v o) ≡ is_some o
put_some v none = refl
put_some v (some vs) = refl

chain_lives : (t : Tables) (k e : ℕ) → is_some (chain t k e) ≡ lives (inside t.entries t.used_entries) (onto t.entries) k e
unfolding chain lives
chain_lives t zero e = refl
chain_lives t (suc k) e = go (ltb e (entries_in t.entries t.used_entries)) (chain_lives t k (onto t.entries e))
  where
    go : (b : Bool) → is_some (chain t k (onto t.entries e)) ≡ lives (inside t.entries t.used_entries) (onto t.entries) k (onto t.entries e)
        → is_some (cond b (put (entry_at t.entries e).child (chain t k (onto t.entries e))) none)
        ≡ (b && lives (inside t.entries t.used_entries) (onto t.entries) k (onto t.entries e))
    go true h = put_some (entry_at t.entries e).child (chain t k (onto t.entries e)) ∙ h
    go false h = refl

-- a chain, taken apart
pub record Headed (t : Tables) (k e : ℕ) (kids : List ℕ) : Type 0 where
  pub here : e < entries_in t.entries t.used_entries
  pub rest : List ℕ
  pub more : chain t k (onto t.entries e) ≡ some rest
  pub are : kids ≡ (entry_at t.entries e).child ∷ rest

pub headed : (t : Tables) (k e : ℕ) (kids : List ℕ) → chain t (suc k) e ≡ some kids → Headed t k e kids
unfolding chain
headed t k e kids h = go (ltb e (entries_in t.entries t.used_entries)) refl (chain t k (onto t.entries e)) refl h
  where
    go : (b : Bool) → ltb e (entries_in t.entries t.used_entries) ≡ b → (o : Option (List ℕ)) → chain t k (onto t.entries e) ≡ o
        → cond b (put (entry_at t.entries e).child o) none ≡ some kids → Headed t k e kids
    go true p (some vs) q h = record { here = ltb-true e (entries_in t.entries t.used_entries) p; rest = vs; more = q; are = cc }
    go true p none q h = let z : ◌≡◌ {A = ℕ} 0 1 = cc in absurd (omega arith)
    go false p o q h = let z : ◌≡◌ {A = ℕ} 0 1 = cc in absurd (omega arith)

-- the entry that a chain goes on with is in the store
pub entry_in : (t : Tables) (k e : ℕ) (kids : List ℕ) → chain t (suc k) e ≡ some kids → EntryIn t.entries e
entry_in t k e kids h = omega (arith, (headed t k e kids h).here)

pub chain_none : (t : Tables) (e : ℕ) (kids : List ℕ) → chain t 0 e ≡ some kids → kids ≡ []
unfolding chain
chain_none t e kids h = cc

chain-strings : (t : Tables) (k e : ℕ) (kids : List ℕ) → chain t k e ≡ some kids → is_none (bad_string t kids) ≡ lives (spelt t) (onto t.entries) k e
unfolding lives bad_string
chain-strings t zero e kids h = ap (λ l. is_none (bad_string t l)) (chain_none t e kids h)
chain-strings t (suc k) e kids h =
    let d = headed t k e kids h in
    let v = (entry_at t.entries e).child in
    ap (λ l. is_none (bad_string t l)) d.are
    ∙ go (string_at t.input t.nodes t.used_nodes v) d.rest (chain-strings t k (onto t.entries e) d.rest d.more)
    ∙ ap (λ b. (b && string_at t.input t.nodes t.used_nodes v) && lives (spelt t) (onto t.entries) k (onto t.entries e))
    (sym (lt-ltb e (entries_in t.entries t.used_entries) d.here))
  where
    go : (b : Bool) (vs : List ℕ) → is_none (bad_string t vs) ≡ lives (spelt t) (onto t.entries) k (onto t.entries e)
        → is_none (cond b (bad_string t vs) (some (entry_at t.entries e).child))
        ≡ (b && lives (spelt t) (onto t.entries) k (onto t.entries e))
    go true vs h = h
    go false vs h = refl

chain_same : (t : Tables) (k e : ℕ) → chain (links t.entries t.used_entries) k e ≡ chain t k e
unfolding chain
chain_same t zero e = refl
chain_same t (suc k) e =
    ap (λ o. cond (ltb e (entries_in t.entries t.used_entries)) (put (entry_at t.entries e).child o) none) (chain_same t k (onto t.entries e))

-- What the two loops answer.
module _ (entries : List ℕ) (used count first : ℕ) {room steps : ℕ} (has : room ≡ entries_in entries used) (takes : steps ≡ min count (room + 1)) where
  cut : steps ≡ min count (suc (entries_in entries used))
  cut = let e : room + 1 ≡ suc (entries_in entries used) = omega arith in takes ∙ ap (min count) e

  pub linked_is : {r : Bool} → r ≡ lives (inside entries used) (onto entries) steps first → r ≡ is_some (chain (links entries used) count first)
  linked_is h =
      h ∙ ap (λ k. lives (inside entries used) (onto entries) k first) cut
      ∙ cut-walk (inside entries used) (onto entries) (entries_in entries used) (λ e i. ltb-true e (entries_in entries used) i) count first
      ∙ sym (chain_lives (links entries used) count first)

pub named_are : (t : Tables) (count first : ℕ) {room steps : ℕ} {r : Bool} → room ≡ entries_in t.entries t.used_entries → steps ≡ min count (room + 1)
    → r ≡ lives (spelt t) (onto t.entries) steps first → Names t first count r
named_are t count first {room} {steps} has takes h =
    record {
      tells = λ kids q.
          h ∙ ap (λ k. lives (spelt t) (onto t.entries) k first) (takes ∙ ap (min count) e)
          ∙ cut-walk (spelt t) (onto t.entries) (entries_in t.entries t.used_entries)
          (λ e i. ltb-true e (entries_in t.entries t.used_entries)
          (both_true (inside t.entries t.used_entries e) (string_at t.input t.nodes t.used_nodes (entry_at t.entries e).child) i).0)
          count first
          ∙ sym (chain-strings t count first kids q);
    }
  where
    e : room + 1 ≡ suc (entries_in t.entries t.used_entries)
    e = omega arith

-- an entry past the room, and one in it
pub outside : (entries : List ℕ) (used e : ℕ) {room : ℕ} → room ≡ entries_in entries used → room ≤ e → inside entries used e ≡ false
outside entries used e {room} h l = le-ltb e (entries_in entries used) (omega arith)

pub within-room : (entries : List ℕ) (used e : ℕ) {room : ℕ} → room ≡ entries_in entries used → e < room → inside entries used e ≡ true
within-room entries used e {room} h l = lt-ltb e (entries_in entries used) (omega arith)

-- Entries that are linked straight ahead.
module _ {entries : List ℕ} {room first steps : ℕ} where
  pub straight_start : Straight entries room first steps 0
  straight_start = record { few = omega arith; each = λ k h. absurd (omega (arith, h)) }

  pub straight_more : {i e : ℕ} → Straight entries room first steps i → e ≡ first + i → i < steps → e < room → (entry_at entries e).next ≡ e + 1
      → Straight entries room first steps (i + 1)
  straight_more {i} {e} k is l inn on = record { few = omega arith; each = λ j h. go j h (ltb j i) refl }
    where
      go : (j : ℕ) → j < i + 1 → (b : Bool) → ltb j i ≡ b → (first + j < room) × ((entry_at entries (first + j)).next ≡ first + j + 1)
      go j h true t = k.each j (ltb-true j i t)
      go j h false t =
          let same : e ≡ first + j = omega (arith, h, ltb-false j i t, is) in
          (omega (arith, same, inn), subst (λ x. (entry_at entries x).next ≡ x + 1) same on)

  pub straight_fits : {r : ℕ} → Straight entries room first steps r → room ≤ 1048576 → first < 4294967296 → first + r < 4294967296
  straight_fits {r} k l small = go r k.each
    where
      go : (r : ℕ) → ((j : ℕ) → j < r → (first + j < room) × ((entry_at entries (first + j)).next ≡ first + j + 1)) → first + r < 4294967296
      go zero each = omega arith
      go (suc r) each = omega (arith, (each r (omega arith)).0)

  pub straight_walk : (used : ℕ) → room ≡ entries_in entries used → {r : ℕ} → Straight entries room first steps r
      → Walking (inside entries used) (onto entries) steps first r (first + r)
  straight_walk used has {r} k = go r k.few k.each
    where
      go : (r : ℕ) → r ≤ steps → ((j : ℕ) → j < r → (first + j < room) × ((entry_at entries (first + j)).next ≡ first + j + 1))
          → Walking (inside entries used) (onto entries) steps first r (first + r)
      go zero l each = subst (Walking (inside entries used) (onto entries) steps first 0) (omega arith) (walk_start _ _ _ _)
      go (suc r) l each =
          let here = each r (omega arith) in
          let one : r + 1 ≡ suc r = omega arith in
          subst (λ n. Walking (inside entries used) (onto entries) steps first n (first + suc r)) one
          (walk_more _ _ _ _ (go r (omega arith) (λ j h. each j (omega (arith, h)))) (omega arith) (within-room entries used (first + r) has here.0) (omega (arith, here.1)))

-- A node and its chain.

pub whole_not : (t : Tables) (n : ℕ) {b : Bool} → b ≡ sound_at t.input t.nodes t.used_nodes n → b ≡ false → false ≡ is_some (whole t n)
unfolding whole
whole_not t n e f = rw (← e, f) refl

pub whole_is : (t : Tables) (n : ℕ) {b r : Bool} (count first : ℕ) → b ≡ sound_at t.input t.nodes t.used_nodes n → b ≡ true
    → count ≡ (node_at t.nodes n).count → first ≡ (node_at t.nodes n).first
    → r ≡ is_some (chain (links t.entries t.used_entries) count first) → r ≡ is_some (whole t n)
unfolding whole
whole_is t n {b} {r} count first e f p q h =
    h ∙ ap is_some (chain_same t count first ∙ ap (λ k. chain t k first) p ∙ ap (chain t (node_at t.nodes n).count) q)
    ∙ ap (λ x. is_some (cond x (chain t (node_at t.nodes n).count (node_at t.nodes n).first) none)) (sym f ∙ e)

pub some_is : {A : Type 0} (o : Option A) → true ≡ is_some o → (a : A) × (o ≡ some a)
some_is none e = never (sym e)
some_is (some a) e = (a, refl)

pub none_is : {A : Type 0} (o : Option A) → false ≡ is_some o → o ≡ none
none_is none e = refl
none_is (some a) e = never e

pub none_so : {A : Type 0} (o : Option A) → true ≡ is_none o → o ≡ none
none_so none e = refl
none_so (some a) e = never (sym e)

pub some_so : {A : Type 0} (o : Option A) → false ≡ is_none o → (a : A) × (o ≡ some a)
some_so none e = never e
some_so (some a) e = (a, refl)

-- an entry of a walk over sound strings
module _ (t : Tables) (e : ℕ) {room : ℕ} (has : room ≡ entries_in t.entries t.used_entries) where
  abbrev text : ℕ → Bool
  text v = string_at t.input t.nodes t.used_nodes v

  pub spelt_outside : room ≤ e → spelt t e ≡ false
  spelt_outside l = ap (λ b. b && text (entry_at t.entries e).child) (outside t.entries t.used_entries e has l)

  pub spelt_as : e < room → (v : ℕ) {b : Bool} → v ≡ (entry_at t.entries e).child → b ≡ text v → spelt t e ≡ b
  spelt_as l v n k =
      ap (λ b. b && text (entry_at t.entries e).child) (within-room t.entries t.used_entries e has l) ∙ sym (k ∙ ap text n)
