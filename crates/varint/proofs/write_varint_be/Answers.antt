-- `varint::write_varint_be` meets its contract: what was put over a cleared store, or the room that there was not.
-- Assumes nothing.
use Rattle.std.proofs.Common.{length, arith, rules, ◌≡◌, Err}
use Rattle.varint.specs.Writing.{big_endian}
use Rattle.varint.proofs.Groups.{size_six}
use Rattle.varint.proofs.Bytes.{length_big}
use Rattle.varint.proofs.WriteLoops.{stored_none, stored_all}
use Rattle.varint.proofs.write_varint_be.Goals as goal

pub returns-in_err-clear_for : goal.returns-in_err-clear_for
returns-in_err-clear_for c =
    let a : c.from_residual.result ≡ Err c.in_err-clear_for.field-0.0 = search rules in
    stored_none (length c.args.out.now) c.args.val (big_endian c.args.val) (c.in_err-clear_for.ensures.cleared) a c.in_err-clear_for.ensures.room (length_big c.args.val)

pub overflow_cast-result : goal.overflow_cast-result
overflow_cast-result c =
    let start = c in
    record { fits = omega (arith, c.put_varint_be.ensures.0, size_six c.args.val c.ranges.val.fits) }

pub returns : goal.returns
returns c =
    let put = c.put_varint_be in
    let size = length_big c.args.val in
    stored_all (length c.args.out.now) c.args.val put.result (big_endian c.args.val) c.in_ok-clear_for.ensures.cleared c.in_ok-clear_for.ensures.room (omega (arith, put.ensures.0)) put.ensures.1 size
