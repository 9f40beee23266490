-- `exceptiontable::entry_size` meets its contract: the sum of its four numbers' counts.
-- Assumes nothing.
use native.Mathlib.Omega.{arith}
use Rattle.exceptiontable.specs.Entry.{entry_in}
use Rattle.exceptiontable.proofs.Encoding.{length-bytes}
use Rattle.exceptiontable.proofs.entry_size.Goals as goal

pub returns : goal.returns
returns c =
    let start = c in
    let all = length-bytes (entry_in c.args.entries.now c.args.at) in
    let first = c.byte_count.ensures in
    let second = c.byte_count-2.ensures in
    let third = c.byte_count-3.ensures in
    let fourth = c.byte_count-4.ensures in
    (omega (arith, all, first.0, second.0, third.0, fourth.0), omega (arith, first.2, second.2, third.2, fourth.2))
