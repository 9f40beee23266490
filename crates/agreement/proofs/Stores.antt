-- One answer for each call of the functions of `stores`: the number, or the store, by an equation; a node in the grammar's words.
use mathlib.Core.Path.{refl}
use Rattle.grammar.specs.State as state
use Rattle.stores.specs.declared.Node.{Node}
use Rattle.stores.specs.Written.{node_of}
use Rattle.stores.proofs as stores
use Rattle.stores.specs.contracts as stores_contracts
use Rattle.agreement.specs.Agreement.{Agree}
use Rattle.agreement.proofs.Same.{one, retold}

-- a node's numbers, from the grammar's words back
abbrev node_from : state.Node → Node
node_from n = record { letter = n.letter; place = n.place; size = n.size; first = n.first; count = n.count; end = n.end; input = n.input }

pub at_most-agrees : Agree stores_contracts.at_most.ended stores.at_most.Reads.Asked stores.at_most.Reads.Learnt
at_most-agrees κs a asked r r' ws ws' p p' = (one p p', refl)

pub node_capacity-agrees : Agree stores_contracts.node_capacity.ended stores.node_capacity.Reads.Asked stores.node_capacity.Reads.Learnt
node_capacity-agrees κs a asked r r' ws ws' p p' = (one p p', refl)

pub entry_capacity-agrees : Agree stores_contracts.entry_capacity.ended stores.entry_capacity.Reads.Asked stores.entry_capacity.Reads.Learnt
entry_capacity-agrees κs a asked r r' ws ws' p p' = (one p p', refl)

pub nodes_in-agrees : Agree stores_contracts.nodes_in.ended stores.nodes_in.Reads.Asked stores.nodes_in.Reads.Learnt
nodes_in-agrees κs a asked r r' ws ws' p p' = (one p p', refl)

pub entries_in-agrees : Agree stores_contracts.entries_in.ended stores.entries_in.Reads.Asked stores.entries_in.Reads.Learnt
entries_in-agrees κs a asked r r' ws ws' p p' = (one p.0 p'.0, refl)

pub write_node-agrees : Agree stores_contracts.write_node.ended stores.write_node.Reads.Asked stores.write_node.Reads.Learnt
write_node-agrees κs a asked r r' ws ws' p p' = (refl, λ i. (one p p' i, (tt, (tt, tt))))

pub write_entry-agrees : Agree stores_contracts.write_entry.ended stores.write_entry.Reads.Asked stores.write_entry.Reads.Learnt
write_entry-agrees κs a asked r r' ws ws' p p' = (refl, λ i. (one p p' i, (tt, (tt, tt))))

pub link_entry-agrees : Agree stores_contracts.link_entry.ended stores.link_entry.Reads.Asked stores.link_entry.Reads.Learnt
link_entry-agrees κs a asked r r' ws ws' p p' = (refl, λ i. (one p p' i, (tt, (tt, tt))))

pub fill-slot-agrees : Agree stores_contracts.fill_slot.ended stores.fill_slot.Reads.Asked stores.fill_slot.Reads.Learnt
fill-slot-agrees κs a asked r r' ws ws' p p' = (refl, λ i. (one p p' i, (tt, (tt, (tt, tt)))))

pub node_of-agrees : Agree stores_contracts.node_of.ended stores.node_of.Reads.Asked stores.node_of.Reads.Learnt
node_of-agrees κs a asked r r' ws ws' p p' = (retold node_of node_from (λ n. refl) p p', refl)

pub letter_of-agrees : Agree stores_contracts.letter_of.ended stores.letter_of.Reads.Asked stores.letter_of.Reads.Learnt
letter_of-agrees κs a asked r r' ws ws' p p' = (one p p', refl)

pub place_of_agrees : Agree stores_contracts.place_of.ended stores.place_of.Reads.Asked stores.place_of.Reads.Learnt
place_of_agrees κs a asked r r' ws ws' p p' = (one p p', refl)

pub size_of-agrees : Agree stores_contracts.size_of.ended stores.size_of.Reads.Asked stores.size_of.Reads.Learnt
size_of-agrees κs a asked r r' ws ws' p p' = (one p p', refl)

pub first_of-agrees : Agree stores_contracts.first_of.ended stores.first_of.Reads.Asked stores.first_of.Reads.Learnt
first_of-agrees κs a asked r r' ws ws' p p' = (one p p', refl)

pub count_of-agrees : Agree stores_contracts.count_of.ended stores.count_of.Reads.Asked stores.count_of.Reads.Learnt
count_of-agrees κs a asked r r' ws ws' p p' = (one p p', refl)

pub end_of-agrees : Agree stores_contracts.end_of.ended stores.end_of.Reads.Asked stores.end_of.Reads.Learnt
end_of-agrees κs a asked r r' ws ws' p p' = (one p p', refl)

pub input_of_agrees : Agree stores_contracts.input_of.ended stores.input_of.Reads.Asked stores.input_of.Reads.Learnt
input_of_agrees κs a asked r r' ws ws' p p' = (one p p', refl)

pub child_of-agrees : Agree stores_contracts.child_of.ended stores.child_of.Reads.Asked stores.child_of.Reads.Learnt
child_of-agrees κs a asked r r' ws ws' p p' = (one p p', refl)

pub next_of_agrees : Agree stores_contracts.next_of.ended stores.next_of.Reads.Asked stores.next_of.Reads.Learnt
next_of_agrees κs a asked r r' ws ws' p p' = (one p p', refl)

pub node_at-agrees : Agree stores_contracts.node_at.ended stores.node_at.Reads.Asked stores.node_at.Reads.Learnt
node_at-agrees κs a asked r r' ws ws' p p' = (retold node_of node_from (λ n. refl) p p', refl)

pub child_at_agrees : Agree stores_contracts.child_at.ended stores.child_at.Reads.Asked stores.child_at.Reads.Learnt
child_at_agrees κs a asked r r' ws ws' p p' = (one p p', refl)

pub next_at_agrees : Agree stores_contracts.next_at.ended stores.next_at.Reads.Asked stores.next_at.Reads.Learnt
next_at_agrees κs a asked r r' ws ws' p p' = (one p p', refl)

pub slot_of_agrees : Agree stores_contracts.slot_of.ended stores.slot_of.Reads.Asked stores.slot_of.Reads.Learnt
slot_of_agrees κs a asked r r' ws ws' p p' = (one p p', refl)
