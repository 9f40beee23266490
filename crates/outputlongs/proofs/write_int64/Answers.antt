-- Carried by the laws of integers of 64 bits. Assumes nothing.
use Rattle.output.proofs.Laws.{puts_as}
use Rattle.outputlongs.proofs.Integers.{int64_low, int64_high, int64_positive, int64_negative}
use native.Mathlib.Omega.{arith}
use Rattle.outputlongs.proofs.write_int64.Goals as goal

pub returns-then-bits-lt2147483648 : goal.returns-then-bits-lt2147483648
returns-then-bits-lt2147483648 c = puts_as c.write_len.ensures (int64_low c.args.bits (omega arith))

pub returns-then-bits-ge18446744071562067968 : goal.returns-then-bits-ge18446744071562067968
returns-then-bits-ge18446744071562067968 c =
    puts_as c.write_len-then-bits-ge18446744071562067968.ensures (int64_high c.args.bits (omega arith) (omega (arith, c.ranges.bits)))

pub returns-then-bits-lt9223372036854775808 : goal.returns-then-bits-lt9223372036854775808
returns-then-bits-lt9223372036854775808 c = puts_as c.write_digits.ensures (int64_positive c.args.bits (omega arith) (omega arith))

pub returns : goal.returns
returns c = puts_as c.write_digits-2.ensures (int64_negative c.args.bits (omega arith) (omega arith))
