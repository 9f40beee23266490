-- `varintread::read_varint` meets its contract: at each turn the bytes that are left still read as the same number, or as one too large.
-- Assumes nothing.
use Rattle.varintread.proofs.ReadLoop.{ReadSoFar}
use Rattle.varintread.proofs.read_varint.Given as goal

abbrev pub invariant-loop-i : goal.invariant-loop-i
invariant-loop-i l = ReadSoFar l.«data» l.at l.val l.i
