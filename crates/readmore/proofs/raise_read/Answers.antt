-- `readmore::raise_read` meets its contract: what stands behind the kept part is lent, and comes back raised. Assumes nothing.
use mathlib.Core.Path.{◌∙◌, ap}
use mathlib.Core.List.{map}
use Prim.Native.Nat.{◌*◌}
use native.Mathlib.Omega.{arith}
use Rattle.clearing.specs.Lent.{padded}
use Rattle.grammar.specs.State.{node_width, entry_width, node_cells, entry_cells}
use Rattle.grammar.proofs.Contents.{length-node_cells, length-entry_cells}
use Rattle.raising.specs.Appended.{appended_node, appended_entry, appended_slot}
use Rattle.readmore.proofs.Laying.{raised-behind}
use Rattle.readmore.proofs.raise_read.Goals as goal

pub returns : goal.returns
returns c =
    let b = c.args in
    record {
      exact-nodes = λ store ns fits e n r.
          raised-behind (b.keptnodes * node_width) store (node_cells ns) (node_cells (map (appended_node b.keptentries b.number) ns)) (omega (arith, length-node_cells ns)) e
          c.raise_nodes.ensures.same (λ k. c.raise_nodes.ensures.exact ns k n r);
      exact-entries = λ store es fits e n r.
          raised-behind (b.keptentries * entry_width) store (entry_cells es) (entry_cells (map (appended_entry b.keptnodes b.keptentries) es)) (omega (arith, length-entry_cells es)) e
          c.raise_entries.ensures.same (λ k. c.raise_entries.ensures.exact es k n r);
      exact-slots = λ ss k n r. c.raise_slots.ensures.exact ss k n r ∙ ap (λ m. padded m (map (appended_slot b.keptnodes) ss)) c.raise_slots.ensures.same;
    }
