-- `varint::put_varint_with_start` meets its contract: as `put_varint_be`, with 0x80 added to a first byte that had none.
-- Assumes nothing.
use Rattle.std.proofs.Common.{arith}
use Rattle.varint.proofs.Groups.{size-some}
use Rattle.varint.proofs.WriteLoops.{first_below, start_marked}
use Rattle.varint.proofs.put_varint_with_start.Goals as goal

pub bounds-out-at : goal.bounds-out-at
bounds-out-at c = omega (arith, size-some c.args.val, c.put_varint_be-end.auto.out)

pub overflow_add-out : goal.overflow_add-out
overflow_add-out c =
    let start = c in
    record { fits = omega (arith, first_below c.args.out.now c.args.at c.args.val c.put_varint_be-end.ensures.1 c.requires) }

pub bounds-out-at-2 : goal.bounds-out-at-2
bounds-out-at-2 c = omega (arith, size-some c.args.val, c.put_varint_be-end.auto.out)

pub returns : goal.returns
returns c =
    let start = c in
    let put = c.put_varint_be-end in
    (put.ensures.0, start_marked c.args.out.now c.args.at c.args.val put.ensures.1 c.requires)
