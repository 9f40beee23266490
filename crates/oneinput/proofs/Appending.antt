-- Of what an append left: the kept records as they were, and behind them the plain reading's, raised, as `appended` has them. Assumes nothing.
use mathlib.Core.Path.{◌≡◌, ap, ◌∙◌}
use Prim.Native.Nat.{ℕ, ◌+◌, ◌<◌}
use native.Mathlib.Omega.{arith}
use mathlib.Core.List.{List}
use lib.ListN.{length, get_or}
use Rattle.grammar.specs.Reading.{gives}
use Rattle.grammar.specs.State.{State, blank, unlinked, node_at, entry_at}
use Rattle.grammar.specs.Answer.{Counts, read_of, nodes_held, entries_held}
use Rattle.grammar.proofs.Bounded.{Accepted}
use Rattle.grammar.proofs.Contents.{gives-within, accepted-reading}
use Rattle.meaning.proofs.TheoremA.{Answered, answer-gives}
use Rattle.keepvisit.specs.Visit.{Stores, stores}
use Rattle.raising.specs.Appended.{appended_node, appended_entry}
use Rattle.readmore.specs.More.{keeping, more_of}
use Rattle.appended.specs.Promised.{Appended}
use Rattle.appended.proofs.Promised.{appends_keep_their_promises}
use Rattle.oneinput.specs.Inputs.{OneInput}
use Rattle.oneinput.specs.Promised.{stores_after}
use Rattle.oneinput.proofs.Behind.{Behind, behind_one}
use Rattle.oneinput.proofs.Reading.{node_left, entry_left}

module _ (s nodes entries : List ℕ) (slots nesting kept_nodes kept_entries number : ℕ) (c : Counts) (x : Appended s nodes entries slots nesting (keeping kept_nodes kept_entries number) c)
    (y : Answered s (length nodes) (length entries) slots nesting x.alone) where
  abbrev r : ℕ × State
  r = y.read

  abbrev kept : Stores
  kept = stores nodes entries kept_nodes kept_entries

  abbrev left : Stores
  left = stores_after (more_of s nodes entries slots nesting kept_nodes kept_entries number) c

  node-alone : (i : ℕ) → i < length r.1.nodes → node_at (read_of s (length nodes) (length entries) slots nesting).nodes i ≡ get_or r.1.nodes i blank
  unfolding read_of
  node-alone i l = ap (λ a. node_at (nodes_held (length nodes) a) i) y.is ∙ node_left s (length nodes) (length entries) slots nesting r y.is i l

  entry-alone : (i : ℕ) → i < length r.1.entries → entry_at (read_of s (length nodes) (length entries) slots nesting).entries i ≡ get_or r.1.entries i unlinked
  unfolding read_of
  entry-alone i l = ap (λ a. entry_at (entries_held (length entries) a) i) y.is ∙ entry_left s (length nodes) (length entries) slots nesting r y.is i l

  left_behind : Behind kept left number r.1.nodes r.1.entries
  left_behind =
      let many : x.alone.nodes ≡ length r.1.nodes = ap (λ z. z.nodes) y.counts in
      let more : x.alone.entries ≡ length r.1.entries = ap (λ z. z.entries) y.counts in
      record {
        all_nodes = x.count-nodes ∙ ap (λ z. kept_nodes + z) many;
        all_entries = x.count_entries ∙ ap (λ z. kept_entries + z) more;
        same_node = x.kept-node;
        same_entry = x.kept_entry;
        new_node = λ i l. x.node-raised i (omega (arith, l, many)) ∙ ap (appended_node kept_entries number) (node-alone i l);
        new_entry_lem = λ i l. x.entry-raised i (omega (arith, l, more)) ∙ ap (appended_entry kept_nodes kept_entries) (entry-alone i l);
      }

  left_one : OneInput kept → OneInput left
  left_one o =
      let a : Accepted s r = accepted-reading s (length nodes) (length entries) slots nesting r y.is in
      let small = (gives-within s (length nodes) (length entries) slots nesting r y.is).0 in
      behind_one kept left number s r a (omega (arith, a.few-entries, a.consumed, small)) left_behind o

pub appended_one : (s nodes entries : List ℕ) (slots nesting kept_nodes kept_entries number : ℕ) (c : Counts) → (more_of s nodes entries slots nesting kept_nodes kept_entries number).answer ≡ gives c
    → OneInput (stores nodes entries kept_nodes kept_entries) → OneInput (stores_after (more_of s nodes entries slots nesting kept_nodes kept_entries number) c)
appended_one s nodes entries slots nesting kept_nodes kept_entries number c e o =
    let x = appends_keep_their_promises.appended s nodes entries slots nesting (keeping kept_nodes kept_entries number) c e in
    left_one s nodes entries slots nesting kept_nodes kept_entries number c x (answer-gives s (length nodes) (length entries) slots nesting x.alone x.read-alone) o
