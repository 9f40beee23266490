-- One content for each call of the functions of `raising`, where the store keeps the records of a reading and every sum has 32 bits.
use mathlib.Core.Path.{◌≡◌, ap, ◌∙◌}
use Prim.Native.Nat.{ℕ}
use mathlib.Core.List.{List, map}
use lib.ListN.{length}
use Rattle.clearing.specs.Lent.{padded}
use Rattle.grammar.specs.State.{Node, Entry, node_cells, entry_cells}
use Rattle.stores.specs.Written.{Keeps}
use Rattle.raising.specs.Appended.{appended_node, appended_entry, appended_slot}
use Rattle.raising.specs.Raised.{NodesRaise, EntriesRaise, SlotsRaise}
use Rattle.raising.proofs as raising
use Rattle.raising.specs.contracts as raising_contracts
use Rattle.agreement.specs.Agreement.{AgreeAs}
use Rattle.agreement.proofs.Same.{one}

-- what is kept fixes a store of a known length
by_length : (cells : List ℕ) {store : List ℕ} {long : ℕ} → Keeps store cells → length store ≡ long → store ≡ padded long cells
by_length cells k e = k ∙ ap (λ m. padded m cells) e

pub raise_nodes-agrees : AgreeAs raising_contracts.raise_nodes.ended
    (λ κs a r r' ws ws'.
    (ns : List Node) → Keeps a.0.now (node_cells ns) → length ns ≡ a.1.0 → NodesRaise a.1.1.0 ns → ws ≡ ws')
    raising.raise_nodes.Reads.Asked raising.raise_nodes.Reads.Learnt
raise_nodes-agrees κs a asked r r' ws ws' p p' ns k l h i =
    (one (by_length (node_cells (map (appended_node a.1.1.0 a.1.1.1.0) ns)) (p.exact ns k l h) p.same) (by_length _ (p'.exact ns k l h) p'.same) i, (tt, (tt, (tt, tt))))

pub raise_entries-agrees : AgreeAs raising_contracts.raise_entries.ended
    (λ κs a r r' ws ws'.
    (es : List Entry) → Keeps a.0.now (entry_cells es) → length es ≡ a.1.0 → EntriesRaise a.1.1.0 a.1.1.1.0 es → ws ≡ ws')
    raising.raise_entries.Reads.Asked raising.raise_entries.Reads.Learnt
raise_entries-agrees κs a asked r r' ws ws' p p' es k l h i =
    (one (by_length (entry_cells (map (appended_entry a.1.1.0 a.1.1.1.0) es)) (p.exact es k l h) p.same) (by_length _ (p'.exact es k l h) p'.same) i, (tt, (tt, (tt, tt))))

pub raise_slots-agrees : AgreeAs raising_contracts.raise_slots.ended
    (λ κs a r r' ws ws'.
    (ss : List ℕ) → Keeps a.0.now ss → length ss ≡ a.1.0 → SlotsRaise a.1.1.0 ss → ws ≡ ws')
    raising.raise_slots.Reads.Asked raising.raise_slots.Reads.Learnt
raise_slots-agrees κs a asked r r' ws ws' p p' ss k l h i =
    (one (by_length (map (appended_slot a.1.1.0) ss) (p.exact ss k l h) p.same) (by_length _ (p'.exact ss k l h) p'.same) i, (tt, (tt, tt)))
