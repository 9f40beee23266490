-- The value is written into what counts of the output; behind it, or where it is refused everywhere, the output is cleared. Assumes nothing.
use Rattle.writer.proofs.Finishing.{fits-behind, behind-cleared, finish_long, finish_done, finish_refused}
use Rattle.grammar.specs.Record.{tables_of}
use Rattle.clearing.specs.Lent.{zeros}
use lib.Seq.{length_front, length-take-le}
use lib.ListN.{length, drop}
use mathlib.Core.List.{◌++◌}
use native.Mathlib.Omega.{arith}
use mathlib.Core.Path.{sym, ap, ◌∙◌}
use borrow.Author.Rules.{rules}
use Rattle.writer.proofs.serialize_value.Goals as goal

pub returns-then-input : goal.returns-then-input
returns-then-input c =
    let b = c.args in
    let t = tables_of b.input.now b.nodes.now b.entries.now b.used_nodes b.used_entries in
    finish_long t b.root b.nesting (length b.out.now) (omega arith) c.clear_bytes.ensures c.at.ensures

pub slice_bounds-write_value-end : goal.slice_bounds-write_value-end
slice_bounds-write_value-end c = omega (arith, c.counted-room.ensures.1)

pub slice_bounds-write_value-end-2 : goal.slice_bounds-write_value-end-2
slice_bounds-write_value-end-2 c = sym (length-take-le c.counted-room.result c.args.out.now (omega (arith, c.counted-room.ensures.1)))

pub write_value-requires : goal.write_value-requires
write_value-requires c = record { inside = omega arith; counts = omega (arith, c.counted-room.ensures, length-take-le c.counted-room.result c.args.out.now (omega (arith, c.counted-room.ensures.1))) }

pub slice_bounds-clear_bytes-count : goal.slice_bounds-clear_bytes-count
slice_bounds-clear_bytes-count c =
    search (fits-behind c.counted-room.result c.args.out.now (omega (arith, c.counted-room.ensures.1)) c.write_value.ensures c.in-Ok.is, rules)

pub slice_bounds-clear_bytes-start : goal.slice_bounds-clear_bytes-start
slice_bounds-clear_bytes-start c =
    search (fits-behind c.counted-room.result c.args.out.now (omega (arith, c.counted-room.ensures.1)) c.write_value.ensures c.in-Ok.is, rules)

pub returns-in-Ok : goal.returns-in-Ok
returns-in-Ok c =
    let b = c.args in
    let t = tables_of b.input.now b.nodes.now b.entries.now b.used_nodes b.used_entries in
    let o = c.write_value.new.out ++ drop c.counted-room.result b.out.now in
    let fits = fits-behind c.counted-room.result b.out.now (omega (arith, c.counted-room.ensures.1)) c.write_value.ensures c.in-Ok.is in
    let long = length_front b.out.now c.write_value.new.out c.counted-room.result c.write_value.auto.out in
    finish_done t b.root b.nesting (length b.out.now) (omega arith) b.out.now c.at_most-allowance.ensures c.counted-room.ensures.0 (omega (arith, c.counted-room.ensures.1)) c.write_value.ensures c.in-Ok.is
    (behind-cleared c.in-Ok.a (length b.out.now) o fits long c.clear_bytes-in-Ok.ensures)

pub returns-in-Err : goal.returns-in-Err
returns-in-Err c =
    let b = c.args in
    let t = tables_of b.input.now b.nodes.now b.entries.now b.used_nodes b.used_entries in
    finish_refused t b.root b.nesting (length b.out.now) (omega arith) b.out.now c.at_most-allowance.ensures c.counted-room.ensures.0 (omega (arith, c.counted-room.ensures.1)) c.write_value.ensures c.in-Err.is
    (c.clear_bytes-in-Err.ensures ∙ ap zeros (length_front b.out.now c.write_value.new.out c.counted-room.result c.write_value.auto.out))
