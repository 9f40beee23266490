-- `leaf::long_leaf` meets its contract: the count, the magnitude, and then its sign.
-- Assumes nothing.
use borrow.Author.Rules.{rules}
use mathlib.Core.Path.{ap, ◌∙◌}
use Rattle.leaf.specs.Answers.{told_of}
use Rattle.leaf.proofs.Digits.{counts, long-above, long_measured, negative-some}
use native.Mathlib.Omega.{arith}
use Rattle.leaf.proofs.long_leaf.Goals as goal

pub magnitude-requires : goal.magnitude-requires
magnitude-requires c =
    let digits = counts c.args.s.now c.args.place c.le32-word.result c.digit_count.result
    c.le32-word.ensures c.digit_count.ensures.0 in
    (omega (arith, digits, c.requires.0.digits), c.requires.1)

pub long_of-requires : goal.long_of-requires
long_of-requires c =
    λ negative. negative-some c.args.s.now c.args.place c.le32-word.result c.digit_count.result
    c.le32-word.ensures c.digit_count.ensures.0
    c.magnitude.ensures c.in-Some.is c.requires.0 (search rules) negative

pub returns-in-None : goal.returns-in-None
returns-in-None c =
    c.plain.ensures
    ∙ ap told_of (long-above c.args.s.now c.args.place c.le32-word.result c.digit_count.result
    c.le32-word.ensures c.digit_count.ensures.0
    c.magnitude.ensures c.in-None.is)

pub returns-in-Some : goal.returns-in-Some
returns-in-Some c =
    c.long_of.ensures
    ∙ ap told_of (long_measured c.args.s.now c.args.place c.le32-word.result c.digit_count.result
    c.le32-word.ensures c.digit_count.ensures.0
    c.magnitude.ensures c.in-Some.is)
