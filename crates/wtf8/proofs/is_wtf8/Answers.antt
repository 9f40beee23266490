-- `wtf8::is_wtf8` meets its contract: bytes of ASCII are well-formed, and the others are gone through.
-- Assumes nothing.
use mathlib.Core.Path.{sym}
use Rattle.wtf8.proofs.Reached.{all_ascii}
use Rattle.wtf8.proofs.is_wtf8.Goals as goal

pub returns-then-is_ascii : goal.returns-then-is_ascii
returns-then-is_ascii c =
    sym (all_ascii c.args.bytes.now (c.is_ascii.ensures.low c.if-is_ascii.true))
