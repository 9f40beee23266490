-- `exceptiontable::put_entry` meets its contract: four numbers put one behind the other are an entry.
-- Assumes nothing.
use native.Mathlib.Omega.{arith}
use Rattle.exceptiontable.specs.Entry.{entry_in}
use Rattle.exceptiontable.proofs.Encoding.{length-bytes, put_end, put-bytes}
use Rattle.exceptiontable.proofs.put_entry.Goals as goal

pub put_varint_with_start-first-requires : goal.put_varint_with_start-first-requires
put_varint_with_start-first-requires c =
    omega (arith, length-bytes (entry_in c.args.entries.now c.args.at), c.requires.3)

pub put_varint_be-second-requires : goal.put_varint_be-second-requires
put_varint_be-second-requires c =
    let first = c.put_varint_with_start-first in
    omega (arith, length-bytes (entry_in c.args.entries.now c.args.at), c.requires.3, first.ensures.0, first.auto.out)

pub put_varint_be-third-requires : goal.put_varint_be-third-requires
put_varint_be-third-requires c =
    let first = c.put_varint_with_start-first in
    let second = c.put_varint_be-second in
    omega (arith, length-bytes (entry_in c.args.entries.now c.args.at), c.requires.3, first.ensures.0, first.auto.out, second.ensures.0, second.auto.out)

pub put_varint_be-requires : goal.put_varint_be-requires
put_varint_be-requires c =
    let first = c.put_varint_with_start-first in
    let second = c.put_varint_be-second in
    let third = c.put_varint_be-third in
    omega (arith, length-bytes (entry_in c.args.entries.now c.args.at), c.requires.3, first.ensures.0, first.auto.out, second.ensures.0, second.auto.out, third.ensures.0, third.auto.out)

pub returns : goal.returns
returns c =
    let e = entry_in c.args.entries.now c.args.at in
    let first = c.put_varint_with_start-first.ensures in
    let second = c.put_varint_be-second.ensures in
    let third = c.put_varint_be-third.ensures in
    let fourth = c.put_varint_be.ensures in (
      put_end c.args.out.now c.args.used e first.0 first.1 second.0 second.1 third.0 third.1 fourth.0 fourth.1,
      put-bytes c.args.out.now c.args.used e first.0 first.1 second.0 second.1 third.0 third.1 fourth.0 fourth.1,
    )
