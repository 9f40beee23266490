-- `fields::read_bytes` meets its contract: the length is judged, then read, and the contents tested as the definition does.
-- Assumes nothing.
use Rattle.fields.specs.Behind.{fields_of}
use Rattle.grammar.specs.Fields.{contained}
use Rattle.refusals.proofs.Faults.{handed_on}
use Rattle.fields.proofs.Laws.{passed, failed, bytes_cut, bytes_in_lem}
use native.Mathlib.Omega.{arith}
use Rattle.fields.proofs.read_bytes.Goals as goal

pub le32-size-requires : goal.le32-size-requires
le32-size-requires c = omega (arith, (passed c.read_len.ensures c.in_ok-read_len.was).within)

pub returns-then-from-p : goal.returns-then-from-p
returns-then-from-p c = rw c.at.ensures (bytes_cut (passed c.read_len.ensures c.in_ok-read_len.was)
    c.le32-size.ensures c.if-from-p.true)

pub returns-in_err-read_len : goal.returns-in_err-read_len
unfolding fields_of contained
returns-in_err-read_len c = rw (handed_on c.from_residual.ensures.1) (record { ahead = tt; exact = failed c.read_len.ensures c.in_err-read_len.was _ })

pub returns : goal.returns
returns c =
    bytes_in_lem (passed c.read_len.ensures c.in_ok-read_len.was)
    c.le32-size.ensures c.if-from-p.false
