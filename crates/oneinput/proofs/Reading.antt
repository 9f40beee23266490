-- Of what a reading left: its records stand behind none, and every node's number is 0. Assumes nothing.
use mathlib.Core.Path.{◌≡◌, refl, sym, ap, ap₂, subst, ◌∙◌}
use Prim.Native.Nat.{ℕ, ◌+◌, ◌<◌}
use native.Mathlib.Omega.{arith}
use mathlib.Core.Bool.{Bool, true, false, cond}
use mathlib.Core.List.{List, []}
use lib.ListN.{length, get_or}
use lib.Dec.{eqb}
use Rattle.refusals.specs.Limits.{nothing}
use Rattle.clearing.specs.Lent.{padded}
use Rattle.grammar.specs.Reading.{Answer, gives, stops}
use Rattle.grammar.specs.State.{Node, Entry, State, blank, unlinked, node_at, entry_at}
use Rattle.grammar.specs.Answer.{Counts, counts_of, answered, outcome_of, reading, read_of, nodes_held, entries_held}
use Rattle.grammar.proofs.Bounded.{Accepted}
use Rattle.grammar.proofs.Contents.{gives-within, accepted-reading}
use Rattle.grammar.proofs.ReadBack.{node_at_lem, entry_at_lem}
use Rattle.keepvisit.specs.Visit.{Stores, stores}
use Rattle.raising.specs.Appended.{raised_link, relabelled, appended_node, appended_entry}
use Rattle.oneinput.specs.Inputs.{OneInput}
use Rattle.oneinput.specs.Promised.{stores_after}
use Rattle.oneinput.proofs.Behind.{Behind, behind_one}

-- no record at all
abbrev bare : Stores
bare = stores [] [] 0 0

bare_one : OneInput bare
bare_one = record { chained = λ n e l k. absurd (omega (arith, l)); counted = λ n c l k. absurd (omega (arith, l)); alike = λ n c l k. absurd (omega (arith, l)) }

raised_by_none : (e : ℕ) → raised_link 0 e ≡ e
raised_by_none e = go (eqb e nothing)
  where
    go : (b : Bool) → cond b e (0 + e) ≡ e
    go true = refl
    go false = omega arith

raised_node_lem : (n : Node) → n.input ≡ 0 → n ≡ appended_node 0 0 n
raised_node_lem n h = ap₂ (λ f k. relabelled f k n) (sym (raised_by_none n.first)) h

raised_entry_lem : (e : Entry) → e ≡ appended_entry 0 0 e
raised_entry_lem e = let z : e.child ≡ 0 + e.child = omega arith in ap₂ (λ c n. record { child = c; next = n }) z (sym (raised_by_none e.next))

module _ (s : List ℕ) (nodes entries slots nesting : ℕ) (r : ℕ × State) (e : reading s nodes entries slots nesting ≡ gives r) where
  a : Accepted s r
  a = accepted-reading s nodes entries slots nesting r e

  abbrev left : Stores
  left = stores (nodes_held nodes (gives r)) (entries_held entries (gives r)) (length r.1.nodes) (length r.1.entries)

  pub node_left : (i : ℕ) → i < length r.1.nodes → node_at left.nodes i ≡ get_or r.1.nodes i blank
  unfolding padded
  node_left i l = node_at_lem r.1.nodes _ i l

  pub entry_left : (i : ℕ) → i < length r.1.entries → entry_at left.entries i ≡ get_or r.1.entries i unlinked
  unfolding padded
  entry_left i l = entry_at_lem r.1.entries _ i l

  left_zero : (i : ℕ) → i < length r.1.nodes → (node_at left.nodes i).input ≡ 0
  left_zero i l = ap (λ n. n.input) (node_left i l) ∙ (a.finished i l).input

  left_behind : Behind bare left 0 r.1.nodes r.1.entries
  left_behind =
      record {
        all_nodes = omega arith;
        all_entries = omega arith;
        same_node = λ n l. absurd (omega (arith, l));
        same_entry = λ n l. absurd (omega (arith, l));
        new_node = λ i l.
            let z : 0 + i ≡ i = omega arith in
            ap (node_at left.nodes) z ∙ node_left i l ∙ raised_node_lem (get_or r.1.nodes i blank) (a.finished i l).input;
        new_entry_lem = λ i l. let z : 0 + i ≡ i = omega arith in ap (entry_at left.entries) z ∙ entry_left i l ∙ raised_entry_lem (get_or r.1.entries i unlinked);
      }

  left_one : OneInput left
  left_one =
      let small = (gives-within s nodes entries slots nesting r e).0 in
      behind_one bare left 0 s r a (omega (arith, a.few-entries, a.consumed, small)) left_behind bare_one

same : (c d : Counts) → gives c ≡ gives d → c ≡ d
same c d e = cc

pub read_one : (s : List ℕ) (nodes entries slots nesting : ℕ) (c : Counts) → (read_of s nodes entries slots nesting).answer ≡ gives c → OneInput (stores_after (read_of s nodes entries slots nesting) c)
unfolding read_of
read_one s nodes entries slots nesting c e = go (reading s nodes entries slots nesting) refl e
  where
    go : (x : Answer (ℕ × State)) → reading s nodes entries slots nesting ≡ x → answered x ≡ gives c → OneInput (stores_after (outcome_of nodes entries slots x) c)
    go (gives r) q e = subst (λ d. OneInput (stores_after (outcome_of nodes entries slots (gives r)) d)) (same (counts_of r.1) c e) (left_one s nodes entries slots nesting r q)
    go (stops number place) q e = let z : ◌≡◌ {A = ℕ} 0 1 = cc in absurd (omega arith)

pub read_zero : (s : List ℕ) (nodes entries slots nesting : ℕ) (c : Counts) → (read_of s nodes entries slots nesting).answer ≡ gives c
    → (n : ℕ) → n < c.nodes → (node_at (read_of s nodes entries slots nesting).nodes n).input ≡ 0
unfolding read_of
read_zero s nodes entries slots nesting c e n l = go (reading s nodes entries slots nesting) refl e
  where
    go : (x : Answer (ℕ × State)) → reading s nodes entries slots nesting ≡ x → answered x ≡ gives c → (node_at (outcome_of nodes entries slots x).nodes n).input ≡ 0
    go (gives r) q e = left_zero s nodes entries slots nesting r q n (omega (arith, l, ap (λ k. k.nodes) (same (counts_of r.1) c e)))
    go (stops number place) q e = let z : ◌≡◌ {A = ℕ} 0 1 = cc in absurd (omega arith)
