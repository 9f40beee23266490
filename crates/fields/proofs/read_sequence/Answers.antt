-- `fields::read_sequence` meets its contract: the length is judged, then read.
-- Assumes nothing.
use borrow.Author.Rules.{rules}
use Rattle.grammar.specs.Fields.{fields}
use Rattle.fields.specs.Behind.{fields_of}
use Rattle.refusals.proofs.Faults.{handed_on}
use Rattle.fields.proofs.Laws.{passed, failed}
use native.Mathlib.Omega.{arith}
use Rattle.fields.proofs.read_sequence.Goals as goal

pub le32-requires : goal.le32-requires
le32-requires c = omega (arith, (passed c.read_len.ensures c.in_ok-read_len.was).within)

pub returns-in_err-read_len : goal.returns-in_err-read_len
unfolding fields_of fields
returns-in_err-read_len c = rw (handed_on c.from_residual.ensures.1) (record { ahead = tt; exact = failed c.read_len.ensures c.in_err-read_len.was _ })

pub returns : goal.returns
unfolding fields_of fields
returns c =
    let fine = passed c.read_len.ensures c.in_ok-read_len.was in
    record { ahead = (search rules, fine.within); exact = rw c.le32.ensures (fine.exact _) }
