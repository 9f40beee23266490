-- `varint::byte_count` meets its contract: the law that ties a number's leading zeros to its groups.
-- Assumes nothing.
use Rattle.std.proofs.Common.{le_trans, arith, lit≤}
use lib.Count.{leading_le}
use Rattle.varint.proofs.Groups.{size-some, size_six}
use Rattle.varint.proofs.Count.{zeros-size}
use Rattle.varint.proofs.byte_count.Goals as goal

pub overflow_sub-result : goal.overflow_sub-result
overflow_sub-result c = le_trans (leading_le 32 _) (lit≤ tt)

pub returns : goal.returns
returns c =
    let all = zeros-size c.args.val c.ranges.val.fits in
    (all, omega (arith, all, size-some c.args.val), omega (arith, all, size_six c.args.val c.ranges.val.fits))
