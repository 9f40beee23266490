-- `wtf8::four` meets its contract: a chain of steps through the sequence for each answer.
use native.Mathlib.Omega.{arith}
use Rattle.wtf8.proofs.Reached.{led, on, off, cut, whole}
use Rattle.wtf8.proofs.four.Goals as goal

pub returns-then-bytes-at-lt4 : goal.returns-then-bytes-at-lt4
returns-then-bytes-at-lt4 c = cut (led c.requires.0 c.requires.1) (omega arith)

pub returns-then-not-stands : goal.returns-then-not-stands
returns-then-not-stands c =
    off (led c.requires.0 c.requires.1) (omega arith) c.stands.ensures c.if-not-stands.true

pub returns-then-not-stands-2 : goal.returns-then-not-stands-2
returns-then-not-stands-2 c =
    off
    (on (led c.requires.0 c.requires.1)
    (omega arith) c.stands.ensures c.if-not-stands.false)
    (omega arith) c.stands-2.ensures c.if-not-stands-2.true

pub returns-then-not-stands-3 : goal.returns-then-not-stands-3
returns-then-not-stands-3 c =
    off
    (on (on (led c.requires.0 c.requires.1)
    (omega arith) c.stands.ensures c.if-not-stands.false)
    (omega arith) c.stands-2.ensures c.if-not-stands-2.false)
    (omega arith) c.stands-3.ensures c.if-not-stands-3.true

pub returns : goal.returns
returns c =
    whole
    (on (on (on (led c.requires.0 c.requires.1)
    (omega arith) c.stands.ensures c.if-not-stands.false)
    (omega arith) c.stands-2.ensures c.if-not-stands-2.false)
    (omega arith) c.stands-3.ensures c.if-not-stands-3.false)
