-- `wtf8::two` meets its contract: a chain of steps through the sequence for each answer.
use native.Mathlib.Omega.{arith}
use Rattle.wtf8.proofs.Reached.{led, on, off, cut, whole}
use Rattle.wtf8.proofs.two.Goals as goal

pub returns-then-bytes-at-lt2 : goal.returns-then-bytes-at-lt2
returns-then-bytes-at-lt2 c = cut (led c.requires.0 c.requires.1) (omega arith)

pub returns-then-not-stands : goal.returns-then-not-stands
returns-then-not-stands c =
    off (led c.requires.0 c.requires.1) (omega arith) c.stands.ensures c.if-not-stands.true

pub returns : goal.returns
returns c =
    whole (on (led c.requires.0 c.requires.1) (omega arith) c.stands.ensures c.if-not-stands.false)
