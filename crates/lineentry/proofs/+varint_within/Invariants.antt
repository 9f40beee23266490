-- `lineentry::varint_within`: a recursion on the bytes that may still come.
use Rattle.lineentry.proofs.+varint_within.Given as goal

abbrev pub decreases-varint_within : goal.decreases-varint_within
decreases-varint_within l = l.most
