-- `wtf8::plain` meets its contract: one step over ASCII, or as many as there are in blocks.
-- Assumes nothing.
use Rattle.wtf8.proofs.Reached.{led, ascii, taken, whole}
use Rattle.wtf8.proofs.plain.Goals as goal

pub returns-then-not-by_blocks : goal.returns-then-not-by_blocks
returns-then-not-by_blocks c =
    whole (led c.requires.0 (ascii c.requires.1))

pub returns-then-at-ne0 : goal.returns-then-at-ne0
returns-then-at-ne0 c =
    let start = c in
    whole (led c.requires.0 (ascii c.requires.1))

pub returns-then-size-eq0 : goal.returns-then-size-eq0
returns-then-size-eq0 c =
    let start = c in
    whole (led c.requires.0 (ascii c.requires.1))

pub returns : goal.returns
returns c =
    taken c.blocks-size.ensures c.if-size-eq0.false
