-- `varint::signed_code` meets its contract: zero minus the bits, wrapping, is 2^32 less the bits.
-- Assumes nothing.
use Rattle.std.proofs.Common.{arith, le-ltb, lt-ltb}
use Rattle.varint.proofs.signed_code.Goals as goal

pub returns-then-bits-lt2147483648 : goal.returns-then-bits-lt2147483648
returns-then-bits-lt2147483648 c = simp (lt-ltb _ _ c.if-bits-lt2147483648.true)

pub returns-else-bits-lt2147483648 : goal.returns-else-bits-lt2147483648
returns-else-bits-lt2147483648 c = simp (le-ltb _ _ c.if-bits-lt2147483648.false) (omega arith)
