-- Three times the allowance carries it: a value's children and a code's parts have less, and what stands between them counts one or two
-- more. The children are carried by `Rowing`, those that are left are still to come, leaves first; the parts by `Parting`.
use Rattle.std.proofs.Common.{◌+◌, ◌-◌, ◌*◌}
use Rattle.underway.proofs.Under.{Rowing}
use Rattle.underway.specs.Rows.{row_of_node}
use Rattle.writecheck.specs.Looking.{lent_of}
use Rattle.writing.specs.Steps.{writing}
use Rattle.writing.specs.Writing.{each}
use Rattle.writevalue.proofs.Coding.{Parting}
use Rattle.writevalue.proofs.+write_children_write_part_write_parts_write_value.Given as goal

abbrev pub decreases-write_children : goal.decreases-write_children
decreases-write_children l = 3 * l.allowance + 1

abbrev pub decreases-write_part : goal.decreases-write_part
decreases-write_part l = 3 * l.allowance + 1

abbrev pub decreases-write_parts : goal.decreases-write_parts
decreases-write_parts l = 3 * l.allowance + 2

abbrev pub decreases-write_value : goal.decreases-write_value
decreases-write_value l = 3 * l.allowance

abbrev pub invariant-write_children-loop-row : goal.invariant-write_children-loop-row
invariant-write_children-loop-row l =
    let t = lent_of l.values.lent in
    Rowing t (writing l.allowance t) (λ vs. Unit) l.count l.initial.out l.at (each (writing l.allowance t) (row_of_node t l.node)) l.out l.i l.e l.p

abbrev pub decreases-write_children-loop-row : goal.decreases-write_children-loop-row
decreases-write_children-loop-row l = l.count - l.i

abbrev pub invariant-write_parts-loop-part : goal.invariant-write_parts-loop-part
invariant-write_parts-loop-part l =
    Parting (lent_of l.values.lent) l.node l.allowance l.kinds l.line l.initial.entry l.initial.out l.at l.out l.part l.entry l.end
