-- `wtf8::is_ascii` meets its contract: the sizes are those that two blocks cover, and else the greatest byte tells.
-- Assumes nothing.
use Rattle.wtf8.proofs.Ascii.{by_greatest}
use Rattle.wtf8.proofs.is_ascii.Goals as goal

pub returns-then-size-lt8 : goal.returns-then-size-lt8
returns-then-size-lt8 c = by_greatest c.greatest.ensures

pub returns : goal.returns
returns c = by_greatest c.greatest-2.ensures
