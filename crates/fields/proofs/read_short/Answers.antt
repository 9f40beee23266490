-- `fields::read_short` meets its contract: the length byte, then the string is judged.
-- Assumes nothing.
use borrow.Author.Tests.{lt-leb}
use Rattle.grammar.specs.Fields.{contained}
use Rattle.fields.specs.Behind.{fields_of}
use Rattle.refusals.proofs.Faults.{handed_on}
use Rattle.fields.proofs.Laws.{passed, failed, short-bad, short_in}
use Rattle.fields.proofs.read_short.Goals as goal

pub returns-then-from-p : goal.returns-then-from-p
unfolding fields_of contained
returns-then-from-p c = rw c.at.ensures (record { ahead = tt; exact = rw (lt-leb _ _ c.if-from-p.true) })

pub returns-in_err-read_wtf8 : goal.returns-in_err-read_wtf8
returns-in_err-read_wtf8 c =
    rw (handed_on c.from_residual.ensures.1)
    (short-bad c.if-from-p.false c.word-size.ensures.0 (failed c.read_wtf8.ensures c.in_err-read_wtf8.was))

pub returns : goal.returns
returns c =
    short_in c.if-from-p.false c.word-size.ensures.0
    (passed c.read_wtf8.ensures c.in_ok-read_wtf8.was)
