-- The cycle's four members. Children: carried by `Rowing`, those that are left are still to come, leaves first. A part of a code: its
-- case tells what its place asks and how it is written. The parts: carried by `Parting`, the first line among them. A value: what its
-- opening left is written by its row, which is closed behind it, or by its parts.
use Rattle.underway.proofs.Under.{opens, row-turn, row_more, row-refused, row_end_lem, refused_in, written_in, last, puts_equal}
use Rattle.writeleaves.proofs.Leading.{row_led}
use Rattle.writevalue.proofs.Opening.{head_as}
use Rattle.writevalue.proofs.Coding.{line_first, value-part, asks-bytes, asks-names, asks-locals, asks-string, parting_none, part-turn, part-refused, part-more, parting_all, part_in, line-within, line-place}
use Rattle.writecheck.specs.Looking.{lent_of}
use Rattle.writing.specs.Steps.{writing, manners}
use Rattle.writing.specs.Names.{contents_of}
use Rattle.grammar.specs.Steps.{rules}
use Rattle.grammar.specs.Fields.{le32}
use Rattle.grammar.specs.State.{Node}
use Rattle.std.proofs.Common.{rules as searching, refl, ap, ◌∙◌, ◌≡◌, Ok, Err, arith}
use Rattle.writevalue.proofs.+write_children_write_part_write_parts_write_value.Goals as goal

pub write_children-returns-then-count-row : goal.write_children-returns-then-count-row
write_children-returns-then-count-row t c =
    let a = c.args in
    let x = lent_of a.values.now.lent in
    row_end_lem (row_led x a.allowance _ c.loop-row.invariant c.write_leaves.ensures c.in_ok-row.was) (omega arith)

pub write_children-returns-in_err-p : goal.write_children-returns-in_err-p
write_children-returns-in_err-p t c =
    let a = c.args in
    let x = lent_of a.values.now.lent in
    let passed : c.from_residual-in_err-p.result ≡ Err c.in_err-p.field-0.0 = search searching in
    rw passed (row-refused (row-turn (row_led x a.allowance _ c.loop-row.invariant c.write_leaves.ensures c.in_ok-row.was) (omega arith) c.child_of-child.ensures) c.write_value.ensures c.in_err-p.was)

pub write_children-loop-row-preserved : goal.write_children-loop-row-preserved
write_children-loop-row-preserved t c =
    let a = c.args in
    let x = lent_of a.values.now.lent in
    row_more (row-turn (row_led x a.allowance _ c.loop-row.invariant c.write_leaves.ensures c.in_ok-row.was) (omega arith) c.child_of-child.ensures) (λ vs h. tt) (omega arith) c.next_of-e.ensures c.write_value.ensures c.in_ok-p.was

pub write_part-write_bytes-requires : goal.write_part-write_bytes-requires
unfolding rules
write_part-write_bytes-requires t c = (c.requires.0, asks-bytes c.requires.1 c.in-0.is refl)

pub write_part-write_marshal_name_tuple-requires : goal.write_part-write_marshal_name_tuple-requires
write_part-write_marshal_name_tuple-requires t c = (c.requires.0, asks-names c.requires.1 c.in-2.is)

pub write_part-write_locals-requires : goal.write_part-write_locals-requires
write_part-write_locals-requires t c = (c.requires.0, asks-locals c.requires.1 c.in-3.is)

pub write_part-write_bytes-requires-in-4 : goal.write_part-write_bytes-requires-in-4
unfolding rules
write_part-write_bytes-requires-in-4 t c = (c.requires.0, asks-bytes c.requires.1 c.in-4.is refl)

pub write_part-write_string-requires : goal.write_part-write_string-requires
unfolding rules
write_part-write_string-requires t c = (c.requires.0, asks-string c.requires.1 c.in-5.is refl)

pub write_part-write_string-requires-in-6 : goal.write_part-write_string-requires-in-6
unfolding rules
write_part-write_string-requires-in-6 t c = (c.requires.0, asks-string c.requires.1 c.in-6.is refl)

pub write_part-write_string-requires-in-7 : goal.write_part-write_string-requires-in-7
unfolding rules
write_part-write_string-requires-in-7 t c = (c.requires.0, asks-string c.requires.1 c.in-7.is refl)

pub write_part-write_bytes-requires-in-8 : goal.write_part-write_bytes-requires-in-8
unfolding rules
write_part-write_bytes-requires-in-8 t c =
    let a = c.args in
    let x = lent_of a.values.now.lent in
    (opens (written_in (line_first x a.allowance a.line (contents_of x a.kinds) a.part a.node c.in-8.is c.shown.ensures c.requires.0.inside) c.write_u32.ensures c.in_ok-a-in-8.was) c.requires.0.counts, asks-bytes c.requires.1 c.in-8.is refl)

pub write_part-write_bytes-requires-in-9 : goal.write_part-write_bytes-requires-in-9
unfolding rules
write_part-write_bytes-requires-in-9 t c = (c.requires.0, asks-bytes c.requires.1 c.in-9.is refl)

pub write_part-returns-in-0 : goal.write_part-returns-in-0
unfolding manners
write_part-returns-in-0 t c = rw c.in-0.is c.write_bytes.ensures

pub write_part-returns-in-2 : goal.write_part-returns-in-2
unfolding manners
write_part-returns-in-2 t c = rw c.in-2.is c.write_marshal_name_tuple.ensures

pub write_part-returns-in-3 : goal.write_part-returns-in-3
unfolding manners
write_part-returns-in-3 t c = rw c.in-3.is c.write_locals.ensures

pub write_part-returns-in-4 : goal.write_part-returns-in-4
unfolding manners
write_part-returns-in-4 t c = rw c.in-4.is c.write_bytes-in-4.ensures

pub write_part-returns-in-5 : goal.write_part-returns-in-5
unfolding manners
write_part-returns-in-5 t c = rw c.in-5.is c.write_string.ensures

pub write_part-returns-in-6 : goal.write_part-returns-in-6
unfolding manners
write_part-returns-in-6 t c = rw c.in-6.is c.write_string-in-6.ensures

pub write_part-returns-in-7 : goal.write_part-returns-in-7
unfolding manners
write_part-returns-in-7 t c = rw c.in-7.is c.write_string-in-7.ensures

pub write_part-returns-in_err-a-in-8 : goal.write_part-returns-in_err-a-in-8
write_part-returns-in_err-a-in-8 t c =
    let a = c.args in
    let x = lent_of a.values.now.lent in
    let passed : c.from_residual.result ≡ Err c.in_err-a-in-8.field-0.0 = search searching in
    rw passed (refused_in (writing a.allowance x a.node) (line_first x a.allowance a.line (contents_of x a.kinds) a.part a.node c.in-8.is c.shown.ensures c.requires.0.inside) c.write_u32.ensures c.in_err-a-in-8.was)

pub write_part-returns-in_ok-a-in-8 : goal.write_part-returns-in_ok-a-in-8
write_part-returns-in_ok-a-in-8 t c =
    let a = c.args in
    let x = lent_of a.values.now.lent in
    last (written_in (line_first x a.allowance a.line (contents_of x a.kinds) a.part a.node c.in-8.is c.shown.ensures c.requires.0.inside) c.write_u32.ensures c.in_ok-a-in-8.was) c.write_bytes-in-8.ensures

pub write_part-returns-in-9 : goal.write_part-returns-in-9
unfolding manners
write_part-returns-in-9 t c = rw c.in-9.is c.write_bytes-in-9.ensures

pub write_part-returns-in_default : goal.write_part-returns-in_default
write_part-returns-in_default t c =
    let a = c.args in
    let x = lent_of a.values.now.lent in
    puts_equal {w = writing a.allowance x a.node} c.write_value.ensures
    (value-part x a.allowance a.line (contents_of x a.kinds) a.part a.node c.requires.1.below (λ e. omega arith) (λ e. omega arith) (λ e. omega arith) (λ e. omega arith) (λ e. omega arith) (λ e. omega arith))

pub write_parts-le32-line-requires : goal.write_parts-le32-line-requires
write_parts-le32-line-requires t c =
    let p = ap (λ (n : Node). n.place) c.node_of-n.ensures in
    let z = ap (λ (n : Node). n.size) c.node_of-n.ensures in
    omega (arith, line-within c.requires.1)

pub write_parts-loop-part-init : goal.write_parts-loop-part-init
write_parts-loop-part-init t c =
    let n = c.node_of-n.ensures in
    parting_none c.requires.1 (ap (λ (n : Node). n.first) n) c.part_at-kinds.ensures
    (c.le32-line.ensures ∙ ap (le32 c.args.values.now.lent.input.now) (line-place (ap (λ (n : Node). n.place) n) (ap (λ (n : Node). n.size) n))) c.requires.0.inside

pub write_parts-write_part-requires : goal.write_parts-write_part-requires
write_parts-write_part-requires t c = (
  omega (arith, c.decreases),
  (
    opens c.loop-part.invariant.way c.requires.0.counts,
    part_in c.requires.1 c.loop-part-test.true (ap (λ (n : Node). n.first) c.node_of-n.ensures) c.part_at-kinds.ensures c.loop-part.invariant.reached c.child_of-child.ensures,
  ),
)

pub write_parts-returns-in_err-end : goal.write_parts-returns-in_err-end
write_parts-returns-in_err-end t c =
    let passed : c.from_residual.result ≡ Err c.in_err-end.field-0.0 = search searching in
    rw passed (part-refused (part-turn c.loop-part.invariant c.loop-part-test.true c.child_of-child.ensures) c.write_part.ensures c.in_err-end.was)

pub write_parts-loop-part-preserved : goal.write_parts-loop-part-preserved
write_parts-loop-part-preserved t c = part-more (part-turn c.loop-part.invariant c.loop-part-test.true c.child_of-child.ensures) c.loop-part-test.true c.next_of-entry.ensures c.write_part.ensures c.in_ok-end.was

pub write_parts-returns : goal.write_parts-returns
write_parts-returns t c = parting_all c.loop-part.invariant (omega arith)

pub write_value-returns-in_err-b-in-Row : goal.write_value-returns-in_err-b-in-Row
write_value-returns-in_err-b-in-Row t c =
    let passed : c.from_residual-in_err-b-in-Row.result ≡ Err c.in_err-b-in-Row.field-0.0 = search searching in
    rw passed (refused_in _ (head_as c.open_node.ensures (c.in_ok-a.was ∙ ap Ok c.in-Row.is)).0 c.write_children.ensures c.in_err-b-in-Row.was)

pub write_value-returns-in_ok-b-in-Row : goal.write_value-returns-in_ok-b-in-Row
write_value-returns-in_ok-b-in-Row t c = last (written_in (head_as c.open_node.ensures (c.in_ok-a.was ∙ ap Ok c.in-Row.is)).0 c.write_children.ensures c.in_ok-b-in-Row.was) c.close_row.ensures

pub write_value-returns-in-Parts : goal.write_value-returns-in-Parts
write_value-returns-in-Parts t c = last (head_as c.open_node.ensures (c.in_ok-a.was ∙ ap Ok c.in-Parts.is)).0 c.write_parts.ensures
