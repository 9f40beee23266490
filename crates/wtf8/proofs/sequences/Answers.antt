-- `wtf8::sequences` meets its contract: the laws on going from sequence to sequence.
-- Assumes nothing.
use Rattle.wtf8.proofs.Going.{begun, onward, refused, ended}
use Rattle.wtf8.proofs.sequences.Goals as goal

pub loop-at-init : goal.loop-at-init
loop-at-init c =
    begun

pub returns-then-size-eq0 : goal.returns-then-size-eq0
returns-then-size-eq0 c =
    refused c.loop-at.invariant c.sequence-size.ensures c.if-size-eq0.true

pub loop-at-preserved : goal.loop-at-preserved
loop-at-preserved c =
    onward c.loop-at.invariant c.sequence-size.ensures c.if-size-eq0.false

pub returns : goal.returns
returns c =
    ended c.loop-at.invariant c.loop-at-test.false
