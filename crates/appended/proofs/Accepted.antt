-- An append that is accepted, beside the reading of its input alone: records and values. By the records behind the kept part (Behind), the law of
-- carried stores (carried) for what is new and that of grown ones (Growing) for what is kept. Assumes nothing.
use mathlib.Core.Path.{◌≡◌, refl, sym, ap, ap₂, subst, ◌∙◌}
use Prim.Native.Nat.{ℕ, ◌+◌, ◌-◌, ◌*◌, ◌≤◌, ◌<◌, min}
use native.Mathlib.Omega.{arith}
use mathlib.Core.Bool.{Bool, true, false, cond}
use mathlib.Core.List.{List, [], ◌∷◌, map}
use lib.ListN.{length, get_or, length-map}
use lib.Dec.{ltb}
use borrow.Author.Tests.{ltb-false}
use Rattle.refusals.specs.Numbers.{no_node, no_entry, input_too_long}
use Rattle.refusals.specs.Limits.{most_bytes}
use Rattle.clearing.specs.Lent.{padded}
use Rattle.clearing.proofs.Laws.{length-padded}
use Rattle.grammar.specs.Reading.{Kind, level, node, entry, slot, Answer, gives, stops}
use Rattle.grammar.specs.Room.{Rooms, room_for, run}
use Rattle.grammar.specs.State.{Node, Entry, State, blank, unlinked, node_width, entry_width, node_cells, entry_cells, node_at, entry_at, node_capacity, entry_capacity}
use Rattle.grammar.specs.Answer.{plain, reading, Counts, counts_of, outcome_of, read_of}
use Rattle.grammar.specs.Record.{Tables, tables_of, nodes_in, entries_in, chain}
use Rattle.grammar.proofs.Fitting.{more_room, gives_not_of_room}
use Rattle.grammar.proofs.Exactness.{within-room}
use Rattle.grammar.proofs.Contents.{accepted-reading, length-node_cells, length-entry_cells}
use Rattle.grammar.proofs.Bounded as grammar
use Rattle.grammar.proofs.Links.{child_of, next_of, More, Linked}
use Rattle.grammar.proofs.ReadBack.{node_at_lem, entry_at_lem, linked-read, tables_read}
use Rattle.meaning.specs.Meaning.{value_of, tables_after}
use Rattle.carried.proofs.Carried.{bare, AllKept, Carried}
use Rattle.carried.proofs.Values.{value-kept}
use Rattle.raising.specs.Appended.{appended_node, appended_entry}
use Rattle.readmore.specs.More.{Kept, room_left, appending, counts_with, behind, appended_to}
use Rattle.readmore.specs.Parts.{Fitting}
use Rattle.readmore.proofs.Laying.{length-behind}
use Rattle.readmore.proofs.Bounds.{Bounded, bounded}
use Rattle.appended.specs.Promised.{more_by, lent_room, Appended}
use Rattle.appended.proofs.Counting.{more-is}
use Rattle.appended.proofs.Behind.{node_near, node-behind, entry_near, entry-behind, chain-behind}
use Rattle.appended.proofs.Growing.{Grown, value_stays}

-- every child of a chain is a node that there is
module _ (es : List Entry) (nodes : ℕ) (in_nodes : (e : ℕ) → e < length es → child_of es e < nodes) where
  more_in : (e : ℕ) (vs : List ℕ) → More es e vs → AllKept (λ n. n < nodes) vs
  more_in e [] m = tt
  more_in e (w ∷ ws) m = (subst (λ v. v < nodes) m.2 (in_nodes (next_of es e) m.1), more_in (next_of es e) ws m.3)

  linked_in : (e : ℕ) (vs : List ℕ) → Linked es e vs → AllKept (λ n. n < nodes) vs
  linked_in e [] h = tt
  linked_in e (v ∷ vs) h = (subst (λ c. c < nodes) h.1 (in_nodes e h.0), more_in e vs h.2)

-- what was read, and that it fitted
pub record Read (s nodes entries : List ℕ) (slots nesting : ℕ) (k : Kept) (value : ℕ × State) : Type 0 where
  pub fitting : Fitting (length s) (length nodes) (length entries) k
  pub is : appending s (lent_room nodes entries slots nesting) k ≡ gives value
  pub within : run (room_left (lent_room nodes entries slots nesting) k) (plain s) ≡ gives value

module _ (s nodes entries : List ℕ) (slots nesting : ℕ) (k : Kept) where
  abbrev R : Rooms
  R = lent_room nodes entries slots nesting

  stops-gives : {A : Type 0} (n : ℕ) (r : ℕ × State) → stops n 0 ≡ gives r → A
  stops-gives n r e = absurd (let z : ◌≡◌ {A = ℕ} 0 1 = cc in omega arith)

  pub was_read : (r : ℕ × State) → appending s R k ≡ gives r → Read s nodes entries slots nesting k r
  unfolding appending
  was_read r e = go (ltb most_bytes (length s)) (ltb R.nodes k.nodes) (ltb R.entries k.entries) refl refl refl e
    where
      go : (a b c : Bool) → ltb most_bytes (length s) ≡ a → ltb R.nodes k.nodes ≡ b → ltb R.entries k.entries ≡ c
          → cond a (stops input_too_long 0) (cond b (stops no_node 0) (cond c (stops no_entry 0) (run (room_left R k) (plain s)))) ≡ gives r → Read s nodes entries slots nesting k r
      go true b c x y z q = stops-gives input_too_long r q
      go false true c x y z q = stops-gives no_node r q
      go false false true x y z q = stops-gives no_entry r q
      go false false false x y z q =
          record {
            fitting = record { small = ltb-false most_bytes (length s) x; in_nodes = ltb-false R.nodes k.nodes y; in_entries = ltb-false R.entries k.entries z };
            is = e;
            within = q;
          }

  module _ (r : ℕ × State) (d : Read s nodes entries slots nesting k r) where
    wider : (kind : Kind) → room_for (room_left R k) kind ≤ room_for R kind
    wider level = omega arith
    wider node = omega arith
    wider entry = omega arith
    wider slot = omega arith

    -- in all the room the input is read alone
    alone : reading s (length nodes) (length entries) slots nesting ≡ gives r
    alone =
        within-room s (length nodes) (length entries) slots nesting d.fitting.small
        ∙ more_room (room_left R k) R (plain s) wider (λ n p q. gives_not_of_room r n p (sym d.within ∙ q))
        ∙ d.within

    bounds : Bounded k (length nodes) (length entries) slots r
    bounds = bounded s (length nodes) (length entries) slots nesting k d.fitting r d.within

    acc : grammar.Accepted s r
    acc = accepted-reading s (length nodes) (length entries) slots nesting r alone

    -- the stores after both
    abbrev ns : List Node
    ns = r.1.nodes

    abbrev es : List Entry
    es = r.1.entries

    abbrev nodes_now : List ℕ
    nodes_now = behind (k.nodes * node_width) nodes (node_cells (map (appended_node k.entries k.number) ns))

    abbrev entries_now : List ℕ
    entries_now = behind (k.entries * entry_width) entries (entry_cells (map (appended_entry k.nodes k.entries) es))

    abbrev before : Tables
    before = tables_read s (length nodes) (length entries) r

    abbrev after : List ℕ → Tables
    after input = tables_of input nodes_now entries_now (k.nodes + length ns) (k.entries + length es)

    front-nodes : k.nodes * node_width ≤ length nodes
    front-nodes = omega (arith, bounds.nodes_fit)

    front-entries : k.entries * entry_width ≤ length entries
    front-entries = omega (arith, bounds.entries_fit)

    long-nodes : length nodes_now ≡ length nodes
    long-nodes =
        length-behind (k.nodes * node_width) nodes (node_cells (map (appended_node k.entries k.number) ns))
        (omega (arith, bounds.nodes_fit, length-node_cells (map (appended_node k.entries k.number) ns), length-map ns (appended_node k.entries k.number)))

    long-entries : length entries_now ≡ length entries
    long-entries =
        length-behind (k.entries * entry_width) entries (entry_cells (map (appended_entry k.nodes k.entries) es))
        (omega (arith, bounds.entries_fit, length-entry_cells (map (appended_entry k.nodes k.entries) es), length-map es (appended_entry k.nodes k.entries)))

    all_now : nodes_in nodes_now (k.nodes + length ns) ≡ k.nodes + length ns
    all_now = ap (λ m. min (k.nodes + length ns) (node_capacity m)) long-nodes ∙ omega (arith, bounds.nodes_fit, bounds.few-nodes)

    all_entries_now : entries_in entries_now (k.entries + length es) ≡ k.entries + length es
    all_entries_now = ap (λ m. min (k.entries + length es) (entry_capacity m)) long-entries ∙ omega (arith, bounds.entries_fit, bounds.few-entries)

    node-there : (n : ℕ) → n < length ns → node_at nodes_now (k.nodes + n) ≡ appended_node k.entries k.number (get_or ns n blank)
    node-there n l = node-behind k.nodes nodes front-nodes k.entries k.number ns n l

    entry-there : (e : ℕ) → e < length es → entry_at entries_now (k.entries + e) ≡ appended_entry k.nodes k.entries (get_or es e unlinked)
    entry-there e l = entry-behind k.entries entries front-entries k.nodes es e l

    node-here : (n : ℕ) → n < length ns → node_at before.nodes n ≡ get_or ns n blank
    unfolding padded
    node-here n l = node_at_lem ns _ n l

    entry_here : (e : ℕ) → e < length es → entry_at before.entries e ≡ get_or es e unlinked
    unfolding padded
    entry_here e l = entry_at_lem es _ e l

    in_use : length ns ≤ nodes_in before.nodes (length ns)
    in_use =
        rw (length-padded (length nodes) (node_cells ns) (omega (arith, bounds.nodes_fit, length-node_cells ns))) (omega (arith, bounds.nodes_fit, bounds.few-nodes))

    in_use_entries : length es ≤ entries_in before.entries (length es)
    in_use_entries =
        rw (length-padded (length entries) (entry_cells es) (omega (arith, bounds.entries_fit, length-entry_cells es))) (omega (arith, bounds.entries_fit, bounds.few-entries))

    -- what is new, carried from the one to the other
    carries : Carried before (after s) (λ n. n < length ns) (λ n. k.nodes + n)
    carries =
        record {
          input = refl;
          from = λ n l. omega (arith, in_use);
          to = λ n l. omega (arith, all_now);
          node = λ n l. ap bare (node-there n l) ∙ sym (ap bare (node-here n l));
          kids = λ n l. (acc.finished n l).kids;
          chained = λ n l.
              let f = acc.finished n l in
              ap₂ (chain before) (ap (λ z. z.count) (node-here n l) ∙ f.counted) (ap (λ z. z.first) (node-here n l))
              ∙ linked-read before es entry_here in_use_entries (get_or ns n blank).first f.kids f.linked;
          closed = λ n l. let f = acc.finished n l in linked_in es (length ns) (λ e q. (acc.entries_in_lem e q).child) (get_or ns n blank).first f.kids f.linked;
          counted = λ n l. sym (ap (λ z. z.count) (node-here n l) ∙ (acc.finished n l).counted);
          carried = λ n l.
              let f = acc.finished n l in
              ap₂ (chain (after s)) (ap (λ z. z.count) (node-there n l) ∙ f.counted) (ap (λ z. z.first) (node-there n l))
              ∙ chain-behind (after s) es k.nodes k.entries entry-there (omega (arith, all_entries_now)) (omega (arith, bounds.few-entries)) (get_or ns n blank).first f.kids f.linked;
        }

    -- what is kept, in stores that have grown
    grows : (input : List ℕ) → Grown (tables_of input nodes entries k.nodes k.entries) (after input)
    grows input =
        record {
          input = refl;
          more_nodes = λ n l. omega (arith, all_now);
          more_entries = λ e l. omega (arith, all_entries_now);
          same_node = λ n l. node_near k.nodes nodes front-nodes (node_cells (map (appended_node k.entries k.number) ns)) n (omega arith);
          same_entry = λ e l. entry_near k.entries entries front-entries (entry_cells (map (appended_entry k.nodes k.entries) es)) e (omega arith);
        }

    now : more_by s nodes entries slots nesting k ≡ appended_to k nodes entries slots (gives r)
    now = more-is s nodes entries slots nesting k d.is

    then : read_of s (length nodes) (length entries) slots nesting ≡ outcome_of (length nodes) (length entries) slots (gives r)
    unfolding read_of
    then = ap (outcome_of (length nodes) (length entries) slots) alone

    -- one number of those behind the kept ones, as one raised
    raised_number_lem : (kept n count : ℕ) → kept ≤ n → n < kept + count → (m : ℕ) × (m < count) × (n ≡ kept + m)
    raised_number_lem kept n count l u = (n - kept, omega arith, omega arith)

    as_appended : Appended s nodes entries slots nesting k (counts_with k r.1)
    as_appended =
        record {
          alone = counts_of r.1;
          read-alone = ap (λ o. o.answer) then;
          same_end = refl;
          count-nodes = refl;
          count_entries = refl;
          count-slots = refl;
          node-raised = λ n l. ap (λ o. node_at o.nodes (k.nodes + n)) now ∙ node-there n l ∙ sym (ap (appended_node k.entries k.number) (ap (λ o. node_at o.nodes n) then ∙ node-here n l));
          entry-raised = λ e l. ap (λ o. entry_at o.entries (k.entries + e)) now ∙ entry-there e l ∙ sym (ap (appended_entry k.nodes k.entries) (ap (λ o. entry_at o.entries e) then ∙ entry_here e l));
          numbered = λ n l u.
              let m = raised_number_lem k.nodes n (length ns) l u in
              ap₂ (λ o x. (node_at o.nodes x).input) now m.2 ∙ ap (λ z. z.input) (node-there m.0 m.1);
          apart = λ e l u.
              let m = raised_number_lem k.entries e (length es) l u in
              let z = ap₂ (λ o x. (entry_at o.entries x).child) now m.2 ∙ ap (λ y. y.child) (entry-there m.0 m.1) in
              omega (arith, z);
          kept-node = λ n l. ap (λ o. node_at o.nodes n) now ∙ node_near k.nodes nodes front-nodes (node_cells (map (appended_node k.entries k.number) ns)) n l;
          kept_entry = λ e l. ap (λ o. entry_at o.entries e) now ∙ entry_near k.entries entries front-entries (entry_cells (map (appended_entry k.nodes k.entries) es)) e l;
          same_value = λ a n l.
              ap (λ o. value_of a (tables_after s o (counts_with k r.1)) (k.nodes + n)) now ∙ value-kept carries a n l ∙ sym (ap (λ o. value_of a (tables_after s o (counts_of r.1)) n) then);
          kept-value = λ input a n v e. ap (λ o. value_of a (tables_after input o (counts_with k r.1)) n) now ∙ value_stays (grows input) a n v e;
        }

  pub append-accepted : (c : Counts) → (more_by s nodes entries slots nesting k).answer ≡ gives c → Appended s nodes entries slots nesting k c
  append-accepted c e = go (appending s R k) refl
    where
      go : (a : Answer (ℕ × State)) → appending s R k ≡ a → Appended s nodes entries slots nesting k c
      go (stops n p) q =
          let w : stops n p ≡ gives c = sym (ap (λ o. o.answer) (more-is s nodes entries slots nesting k q)) ∙ e in
          absurd (let z : ◌≡◌ {A = ℕ} 0 1 = cc in omega arith)
      go (gives x) q =
          let w : gives (counts_with k x.1) ≡ gives c = sym (ap (λ o. o.answer) (more-is s nodes entries slots nesting k q)) ∙ e in
          let z : counts_with k x.1 ≡ c = cc in
          subst (Appended s nodes entries slots nesting k) z (as_appended x (was_read x q))
