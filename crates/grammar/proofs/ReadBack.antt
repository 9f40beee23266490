-- What an accepted reading left in the stores is found there again: every node passes the record test, its chain is its children in reading
-- order, and the leaf question about it is answered. Assumes that the input is bytes.
use mathlib.Core.Path.{◌≡◌, refl, sym, ap, ap₂, ◌∙◌}
use Prim.Native.Nat.{ℕ, zero, suc, ◌+◌, ◌*◌, ◌≤◌, ◌<◌}
use native.Mathlib.Omega.{arith}
use mathlib.Core.Bool.{true}
use mathlib.Core.Option.{some}
use mathlib.Core.List.{List, [], ◌∷◌, ◌++◌}
use lib.ListN.{length, get_or}
use borrow.Author.Tests.{lt-ltb, le-ltb}
use Rattle.refusals.specs.Limits.{most_bytes}
use Rattle.clearing.specs.Lent.{padded}
use Rattle.clearing.proofs.Laws.{length-padded}
use Rattle.grammar.specs.Input.{Bytes}
use Rattle.grammar.specs.Reading.{node, entry, gives}
use Rattle.grammar.specs.State.{Node, Entry, State, blank, unlinked, node_width, entry_width, node_cells, entry_cells, node_at, entry_at}
use Rattle.grammar.specs.Answer.{plain, rooms_of, reading, nodes_held, entries_held}
use Rattle.grammar.specs.Counted.{claims_of}
use Rattle.grammar.specs.Record.{sound, nodes_in, entries_in, sound_at, Tables, tables_of, put, chain, whole}
use Rattle.grammar.specs.Leaf.{leaf_as, leaf_of}
use Rattle.grammar.proofs.Fitting.{most-fits, fits-unless_of_room, gives_not_of_room}
use Rattle.grammar.proofs.Links.{child_of, next_of, More, Linked}
use Rattle.grammar.proofs.Bounded.{Accepted}
use Rattle.grammar.proofs.Contents.{gives-within, accepted-reading, Fits, records_fit}

-- The records of a store, in front of whatever follows them.
pub node_at_lem : (ns : List Node) (rest : List ℕ) (n : ℕ) → n < length ns → node_at (node_cells ns ++ rest) n ≡ get_or ns n blank
node_at_lem [] rest n h = absurd (omega arith)
node_at_lem (x ∷ ns) rest zero h = refl
node_at_lem (x ∷ ns) rest (suc n) h =
    let e₀ : suc n * node_width ≡ suc (suc (suc (suc (suc (suc (suc (n * node_width))))))) = omega arith in
    let e₁ : suc n * node_width + 1 ≡ suc (suc (suc (suc (suc (suc (suc (n * node_width + 1))))))) = omega arith in
    let e₂ : suc n * node_width + 2 ≡ suc (suc (suc (suc (suc (suc (suc (n * node_width + 2))))))) = omega arith in
    let e₃ : suc n * node_width + 3 ≡ suc (suc (suc (suc (suc (suc (suc (n * node_width + 3))))))) = omega arith in
    let e₄ : suc n * node_width + 4 ≡ suc (suc (suc (suc (suc (suc (suc (n * node_width + 4))))))) = omega arith in
    let e₅ : suc n * node_width + 5 ≡ suc (suc (suc (suc (suc (suc (suc (n * node_width + 5))))))) = omega arith in
    let e₆ : suc n * node_width + 6 ≡ suc (suc (suc (suc (suc (suc (suc (n * node_width + 6))))))) = omega arith in
    rw (e₁, e₂, e₃, e₄, e₅, e₆, e₀) (node_at_lem ns rest n (omega arith))

pub entry_at_lem : (es : List Entry) (rest : List ℕ) (e : ℕ) → e < length es → entry_at (entry_cells es ++ rest) e ≡ get_or es e unlinked
entry_at_lem [] rest e h = absurd (omega arith)
entry_at_lem (x ∷ es) rest zero h = refl
entry_at_lem (x ∷ es) rest (suc e) h =
    let a : suc e * entry_width ≡ suc (suc (e * entry_width)) = omega arith in
    let b : suc e * entry_width + 1 ≡ suc (suc (e * entry_width + 1)) = omega arith in
    rw (b, a) (entry_at_lem es rest e (omega arith))

-- the children of a chain, walked in the stores
pub chain-read : (t : Tables) (es : List Entry) → ((e : ℕ) → e < length es → entry_at t.entries e ≡ get_or es e unlinked) → length es ≤ entries_in t.entries t.used_entries
    → (e : ℕ) (v : ℕ) (vs : List ℕ) → e < length es → child_of es e ≡ v → More es e vs → chain t (length (v ∷ vs)) e ≡ some (v ∷ vs)
unfolding chain
chain-read t es at few e v [] l c m =
    let q : (entry_at t.entries e).child ≡ v = ap (λ z. z.child) (at e l) ∙ c in
    rw (lt-ltb e (entries_in t.entries t.used_entries) (omega arith), q) refl
chain-read t es at few e v (w ∷ ws) l c m =
    let q : (entry_at t.entries e).child ≡ v = ap (λ z. z.child) (at e l) ∙ c in
    let p : (entry_at t.entries e).next ≡ next_of es e = ap (λ z. z.next) (at e l) in
    rw (lt-ltb e (entries_in t.entries t.used_entries) (omega arith), q, p)
    (ap (put v) (chain-read t es at few (next_of es e) w ws m.1 m.2 m.3))

pub linked-read : (t : Tables) (es : List Entry) → ((e : ℕ) → e < length es → entry_at t.entries e ≡ get_or es e unlinked) → length es ≤ entries_in t.entries t.used_entries
    → (e : ℕ) (vs : List ℕ) → Linked es e vs → chain t (length vs) e ≡ some vs
unfolding chain
linked-read t es at few e [] h = refl
linked-read t es at few e (v ∷ vs) h = chain-read t es at few e v vs h.0 h.1 h.2

-- the stores that a reading left, as the writer and the leaf question take them
abbrev pub tables_read : List ℕ → (nodes entries : ℕ) → ℕ × State → Tables
tables_read s nodes entries r =
    tables_of s (nodes_held nodes (gives r)) (entries_held entries (gives r)) (length r.1.nodes) (length r.1.entries)

module _ (s : List ℕ) (bytes : Bytes s) (nodes entries slots nesting : ℕ) (r : ℕ × State) (e : reading s nodes entries slots nesting ≡ gives r) where
  pub accepted : Accepted s r
  accepted = accepted-reading s nodes entries slots nesting r e

  fits : Fits nodes entries slots r.1
  fits = records_fit s nodes entries slots nesting r e

  -- as many as are used are within the store and the cap
  pub all_nodes : length r.1.nodes ≤ nodes_in (nodes_held nodes (gives r)) (length r.1.nodes)
  all_nodes =
      let w = gives-within s nodes entries slots nesting r e in
      let m = most-fits (rooms_of nodes entries slots nesting) (claims_of s) (fits-unless_of_room (rooms_of nodes entries slots nesting) (plain s) (λ n p q. gives_not_of_room r n p (sym w.1 ∙ q))) node in
      rw (length-padded nodes (node_cells r.1.nodes) fits.in_nodes) (omega (arith, accepted.needed-nodes, m))

  pub all_entries : length r.1.entries ≤ entries_in (entries_held entries (gives r)) (length r.1.entries)
  all_entries =
      let w = gives-within s nodes entries slots nesting r e in
      let m = most-fits (rooms_of nodes entries slots nesting) (claims_of s) (fits-unless_of_room (rooms_of nodes entries slots nesting) (plain s) (λ n p q. gives_not_of_room r n p (sym w.1 ∙ q))) entry in
      rw (length-padded entries (entry_cells r.1.entries) fits.in_entries) (omega (arith, accepted.needed-entries, m))

  pub node_held : (n : ℕ) → n < length r.1.nodes → node_at (nodes_held nodes (gives r)) n ≡ get_or r.1.nodes n blank
  unfolding padded
  node_held n l = node_at_lem r.1.nodes _ n l

  pub entry_held : (i : ℕ) → i < length r.1.entries → entry_at (entries_held entries (gives r)) i ≡ get_or r.1.entries i unlinked
  unfolding padded
  entry_held i l = entry_at_lem r.1.entries _ i l

  -- Every node that was read passes the record test ..
  pub read-is_sound : (n : ℕ) → n < length r.1.nodes → sound_at s (nodes_held nodes (gives r)) (length r.1.nodes) n ≡ true
  unfolding sound_at
  read-is_sound n l =
      rw (lt-ltb n (nodes_in (nodes_held nodes (gives r)) (length r.1.nodes)) (omega (arith, all_nodes)))
      (ap (sound s) (node_held n l) ∙ (accepted.finished n l).own bytes)

  -- .. its chain is its children ..
  pub read_is_whole : (n : ℕ) (l : n < length r.1.nodes) → whole (tables_read s nodes entries r) n ≡ some (accepted.finished n l).kids
  unfolding whole
  read_is_whole n l =
      let f = accepted.finished n l in
      let c : (node_at (nodes_held nodes (gives r)) n).count ≡ length f.kids = ap (λ z. z.count) (node_held n l) ∙ f.counted in
      let p : (node_at (nodes_held nodes (gives r)) n).first ≡ (get_or r.1.nodes n blank).first = ap (λ z. z.first) (node_held n l) in
      rw (read-is_sound n l)
      (ap₂ (chain (tables_read s nodes entries r)) c p
      ∙ linked-read (tables_read s nodes entries r) r.1.entries entry_held all_entries (get_or r.1.nodes n blank).first f.kids f.linked)

  -- .. and the leaf question about it is answered.
  pub read_is_answered : (n : ℕ) → n < length r.1.nodes
      → leaf_of s (nodes_held nodes (gives r)) (length r.1.nodes) n ≡ gives (leaf_as s (get_or r.1.nodes n blank).letter (get_or r.1.nodes n blank).place)
  unfolding leaf_of
  read_is_answered n l =
      let w = gives-within s nodes entries slots nesting r e in
      rw (le-ltb most_bytes (length s) w.0, read-is_sound n l)
      (ap gives (ap (λ z. leaf_as s z.letter z.place) (node_held n l)))
