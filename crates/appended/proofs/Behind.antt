-- Records behind a kept part: found again at their numbers raised by those kept, and the kept ones as they were; and chains through them.
-- Assumes nothing.
use mathlib.Core.Path.{◌≡◌, refl, ap, ◌∙◌}
use Prim.Native.Nat.{ℕ, ◌+◌, ◌-◌, ◌*◌, ◌≤◌, ◌<◌}
use native.Mathlib.Omega.{arith}
use mathlib.Core.Option.{some}
use mathlib.Core.List.{List, [], ◌∷◌, map}
use lib.ListN.{length, get_or, take, length-map, get_or-append}
use lib.Seq.{length-take-le, get_or-append-add, get_or-take}
use borrow.Author.Tests.{lt-ltb, ne_eqb}
use Rattle.refusals.specs.Limits.{nothing}
use Rattle.clearing.specs.Lent.{padded}
use Rattle.grammar.specs.State.{Node, Entry, blank, unlinked, node_width, entry_width, node_cells, entry_cells, node_at, entry_at}
use Rattle.grammar.specs.Record.{Tables, put, chain, entries_in}
use Rattle.grammar.proofs.Links.{child_of, next_of, More, Linked}
use Rattle.grammar.proofs.ReadBack.{node_at_lem, entry_at_lem}
use Rattle.shifts.proofs.Raising.{map-get_in}
use Rattle.raising.specs.Appended.{raised_link, appended_node, appended_entry}
use Rattle.readmore.specs.More.{behind}

-- one number
module _ (stay : ℕ) (store written : List ℕ) (inside : stay ≤ length store) where
  far : (i j : ℕ) → i ≡ stay + j → get_or (behind stay store written) i 0 ≡ get_or (padded (length store - stay) written) j 0
  far i j e =
      let z : i ≡ length (take stay store) + j = omega (arith, length-take-le stay store inside) in
      ap (λ m. get_or (behind stay store written) m 0) z ∙ get_or-append-add (take stay store) (padded (length store - stay) written) j 0

  near : (i : ℕ) → i < stay → get_or (behind stay store written) i 0 ≡ get_or store i 0
  near i l = get_or-append (take stay store) (padded (length store - stay) written) 0 i (omega (arith, length-take-le stay store inside)) ∙ get_or-take stay store i 0 l

-- a node
module _ (kept : ℕ) (store : List ℕ) (inside : kept * node_width ≤ length store) where
  node_far : (written : List ℕ) (n : ℕ) → node_at (behind (kept * node_width) store written) (kept + n) ≡ node_at (padded (length store - kept * node_width) written) n
  node_far written n =
      let f = far (kept * node_width) store written inside in
      (λ i. record {
        letter = f ((kept + n) * node_width) (n * node_width) (omega arith) i;
        place = f ((kept + n) * node_width + 1) (n * node_width + 1) (omega arith) i;
        size = f ((kept + n) * node_width + 2) (n * node_width + 2) (omega arith) i;
        first = f ((kept + n) * node_width + 3) (n * node_width + 3) (omega arith) i;
        count = f ((kept + n) * node_width + 4) (n * node_width + 4) (omega arith) i;
        end = f ((kept + n) * node_width + 5) (n * node_width + 5) (omega arith) i;
        input = f ((kept + n) * node_width + 6) (n * node_width + 6) (omega arith) i;
      })

  pub node_near : (written : List ℕ) (n : ℕ) → n < kept → node_at (behind (kept * node_width) store written) n ≡ node_at store n
  node_near written n l =
      let f = near (kept * node_width) store written inside in
      (λ i. record {
        letter = f (n * node_width) (omega arith) i;
        place = f (n * node_width + 1) (omega arith) i;
        size = f (n * node_width + 2) (omega arith) i;
        first = f (n * node_width + 3) (omega arith) i;
        count = f (n * node_width + 4) (omega arith) i;
        end = f (n * node_width + 5) (omega arith) i;
        input = f (n * node_width + 6) (omega arith) i;
      })

  pub node-behind : (kept_entries number : ℕ) (ns : List Node) (n : ℕ) → n < length ns
      → node_at (behind (kept * node_width) store (node_cells (map (appended_node kept_entries number) ns))) (kept + n) ≡ appended_node kept_entries number (get_or ns n blank)
  unfolding padded
  node-behind kept_entries number ns n l =
      let f = appended_node kept_entries number in
      node_far (node_cells (map f ns)) n ∙ node_at_lem (map f ns) _ n (omega (arith, length-map ns f)) ∙ map-get_in f ns n blank blank l

-- an entry
module _ (kept : ℕ) (store : List ℕ) (inside : kept * entry_width ≤ length store) where
  entry_far : (written : List ℕ) (e : ℕ) → entry_at (behind (kept * entry_width) store written) (kept + e) ≡ entry_at (padded (length store - kept * entry_width) written) e
  entry_far written e =
      let f = far (kept * entry_width) store written inside in
      (λ i. record {
        child = f ((kept + e) * entry_width) (e * entry_width) (omega arith) i;
        next = f ((kept + e) * entry_width + 1) (e * entry_width + 1) (omega arith) i;
      })

  pub entry_near : (written : List ℕ) (e : ℕ) → e < kept → entry_at (behind (kept * entry_width) store written) e ≡ entry_at store e
  entry_near written e l =
      let f = near (kept * entry_width) store written inside in
      (λ i. record { child = f (e * entry_width) (omega arith) i; next = f (e * entry_width + 1) (omega arith) i })

  pub entry-behind : (kept_nodes : ℕ) (es : List Entry) (e : ℕ) → e < length es
      → entry_at (behind (kept * entry_width) store (entry_cells (map (appended_entry kept_nodes kept) es))) (kept + e) ≡ appended_entry kept_nodes kept (get_or es e unlinked)
  unfolding padded
  entry-behind kept_nodes es e l =
      let f = appended_entry kept_nodes kept in
      entry_far (entry_cells (map f es)) e ∙ entry_at_lem (map f es) _ e (omega (arith, length-map es f)) ∙ map-get_in f es e unlinked unlinked l

-- The children of a chain, walked behind the kept entries.
module _ (t : Tables) (es : List Entry) (kept_nodes kept_entries : ℕ)
    (at : (e : ℕ) → e < length es → entry_at t.entries (kept_entries + e) ≡ appended_entry kept_nodes kept_entries (get_or es e unlinked))
    (few : kept_entries + length es ≤ entries_in t.entries t.used_entries) (small : length es ≤ nothing) where
  chain_more : (e v : ℕ) (vs : List ℕ) → e < length es → child_of es e ≡ v → More es e vs → chain t (length (v ∷ vs)) (kept_entries + e) ≡ some (map (λ n. kept_nodes + n) (v ∷ vs))
  unfolding chain
  chain_more e v [] l c m =
      let q : (entry_at t.entries (kept_entries + e)).child ≡ kept_nodes + v = ap (λ z. z.child) (at e l) ∙ ap (λ z. kept_nodes + z) c in
      rw (lt-ltb (kept_entries + e) (entries_in t.entries t.used_entries) (omega arith), q) refl
  chain_more e v (w ∷ ws) l c m =
      let q : (entry_at t.entries (kept_entries + e)).child ≡ kept_nodes + v = ap (λ z. z.child) (at e l) ∙ ap (λ z. kept_nodes + z) c in
      let u : raised_link kept_entries (next_of es e) ≡ kept_entries + next_of es e = rw (ne_eqb (next_of es e) nothing (λ x. omega (arith, m.1))) refl in
      let p : (entry_at t.entries (kept_entries + e)).next ≡ kept_entries + next_of es e = ap (λ z. z.next) (at e l) ∙ u in
      rw (lt-ltb (kept_entries + e) (entries_in t.entries t.used_entries) (omega arith), q, p)
      (ap (put (kept_nodes + v)) (chain_more (next_of es e) w ws m.1 m.2 m.3))

  pub chain-behind : (e : ℕ) (vs : List ℕ) → Linked es e vs → chain t (length vs) (raised_link kept_entries e) ≡ some (map (λ n. kept_nodes + n) vs)
  unfolding chain
  chain-behind e [] h = refl
  chain-behind e (v ∷ vs) h =
      let u : raised_link kept_entries e ≡ kept_entries + e = rw (ne_eqb e nothing (λ x. omega (arith, h.0))) refl in
      ap (chain t (length (v ∷ vs))) u ∙ chain_more e v vs h.0 h.1 h.2
